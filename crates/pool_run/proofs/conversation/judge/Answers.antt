use Rattle.std.proofs.Common.{inl, inr, arith}
use Rattle.pool_run.proofs.Talking.{stands_as}
use Rattle.pool_run.proofs.conversation.judge.Goals as goal

pub returns-in-Other : goal.returns-in-Other
returns-in-Other c = stands_as _ _ _ _ c.as_slice.ensures c.in-Other.is c.in_ok-standing_of.ensures

pub returns : goal.returns
returns c =
    let more = stands_as _ _ _ _ c.as_slice.ensures c.in-More.is c.in_ok-standing_of.ensures in
    (omega arith, inr (inl more), λ all. more)

pub returns-then-progress-lt-MOST_IDLE-2 : goal.returns-then-progress-lt-MOST_IDLE-2
returns-then-progress-lt-MOST_IDLE-2 c = (omega arith, inr (inl (stands_as _ _ _ _ c.as_slice.ensures c.in-More.is c.in_ok-standing_of.ensures)))
