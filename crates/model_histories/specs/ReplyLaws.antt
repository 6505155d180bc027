-- The replies that are computed, and those that may stand in a history.
use Rattle.std.specs.Prelude.{◌≡◌, ◌↔◌, ℕ, List, Some}
use Rattle.net_base.specs.declared.numbers.CallerNo.{CallerNo}
use Rattle.net_base.specs.declared.numbers.ConnNo.{ConnNo}
use Rattle.net_base.specs.declared.numbers.ExchangeNo.{ExchangeNo}
use Rattle.net_base.specs.declared.target.Target.{Target}
use Rattle.partition_keys.specs.declared.group.GroupKey.{GroupKey}
use Rattle.model_histories.specs.Legal.{GoesTo}
use Rattle.model_histories.specs.Replies.{IsSubmitReply, submit_reply, IsCancelReply, cancel_reply, IsChangeReply, change_reply, IsPreconnectReply, preconnect_reply, IsResolvedReply, resolved_reply, IsShutReply, shut_reply, IsDial, dial_of}
use Rattle.model_values.specs.declared.reply.CancelReply.{CancelReply}
use Rattle.model_values.specs.declared.reply.ChangeReply.{ChangeReply}
use Rattle.model_values.specs.declared.reply.PreconnectReply.{PreconnectReply}
use Rattle.model_values.specs.declared.reply.ResolvedReply.{ResolvedReply}
use Rattle.model_values.specs.declared.reply.ShutReply.{ShutReply}
use Rattle.model_values.specs.declared.reply.SubmitReply.{SubmitReply}
use Rattle.model_values.specs.declared.state.AbstractPool.{AbstractPool}
use Rattle.model_values.specs.declared.submission.Submission.{Submission}

-- at each state a call has one reply, which is the one that is computed; and a connection is to be dialed exactly where its number
-- is computed, to the target of its group
pub record RepliesAreComputed : Type 0 where
  pub submit : (s : AbstractPool) (ask : Submission) (r : SubmitReply) → IsSubmitReply s ask r ↔ (r ≡ submit_reply s ask)
  pub cancel : (s : AbstractPool) (who : CallerNo) (e : ExchangeNo) (r : CancelReply) → IsCancelReply s who e r ↔ (r ≡ cancel_reply s who e)
  pub reprioritise : (s : AbstractPool) (who : CallerNo) (e : ExchangeNo) (r : ChangeReply) → IsChangeReply s who e r ↔ (r ≡ change_reply s who e)
  pub preconnect : (s : AbstractPool) (g : GroupKey) (count : ℕ) (r : PreconnectReply) → IsPreconnectReply s g count r ↔ (r ≡ preconnect_reply s g count)
  pub resolved : (s : AbstractPool) (addresses : List (List ℕ)) (r : ResolvedReply) → IsResolvedReply s addresses r ↔ (r ≡ resolved_reply s addresses)
  pub shutdown : (s : AbstractPool) (r : ShutReply) → IsShutReply s r ↔ (r ≡ shut_reply s)
  pub dial : (s : AbstractPool) (c : ConnNo) (target : Target) → IsDial s c target ↔ ((dial_of s ≡ Some c.0) × GoesTo s c.0 target)
  pub dials : (s : AbstractPool) (n : ℕ) → dial_of s ≡ Some n → (target : Target) × GoesTo s n target
