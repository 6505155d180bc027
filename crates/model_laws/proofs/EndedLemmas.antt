-- An exchange that has ended stays so in each history.
use Rattle.std.proofs.Common.{◌≡◌, Option, Some, None, IsSomeAnd}
use Rattle.net_base.specs.declared.numbers.ExchangeNo.{ExchangeNo}
use Rattle.model_laws.proofs.CourseLemmas.{state_later}
use Rattle.model_laws.proofs.ExchangeSteps.{BecomesAt}
use Rattle.model_laws.proofs.ExchangesAfter.{exchange_after}
use Rattle.model_laws.specs.Courses.{OfExchange}
use Rattle.model_laws.specs.EndLaws.{EndedStaysEnded}
use Rattle.model_histories.specs.Histories.{MayStand}
use Rattle.model_steps.specs.After.{after}
use Rattle.model_authority.specs.Lists.{numbered}
use Rattle.model_values.specs.declared.entry.Act.{Act}
use Rattle.model_values.specs.declared.entry.Entry.{Entry}
use Rattle.model_values.specs.declared.outcome.Outcome.{Outcome}
use Rattle.model_values.specs.declared.state.AbstractPool.{AbstractPool}
use Rattle.model_values.specs.declared.state.Exchange.{Exchange}
use Rattle.model_values.specs.declared.state.Status.TheVariants.{Ended}

-- ---- ends

end_stays_at : (F : Type 0) (act : Act) (o p : Option Exchange) (how : Outcome) → F → BecomesAt F act o p → IsSomeAnd o (λ x. x.status ≡ Ended how) → IsSomeAnd p (λ y. y.status ≡ Ended how)
end_stays_at F act None p how f b h = absurd h
end_stays_at F act (Some x) None how f b h = absurd b
end_stays_at F act (Some x) (Some y) how f b h = b.ended f how h

ended_after : (x : ExchangeNo) (how : Outcome) (s : AbstractPool) (e : Entry) → MayStand s e → OfExchange s x (λ y. y.status ≡ Ended how) →
    OfExchange (after s e) x (λ y. y.status ≡ Ended how)
ended_after x how s e may h = end_stays_at (MayStand s e) e.act (numbered x.0 s.exchanges) (numbered x.0 (after s e).exchanges) how may (exchange_after s e x.0) h

pub ended_stays_ended : EndedStaysEnded
ended_stays_ended config h n m x how history later ended =
    state_later config h n m (λ s. OfExchange s x (λ y. y.status ≡ Ended how)) history (ended_after x how) later ended
