use Rattle.std.proofs.Common.{sym, subst}
use Rattle.model_histories.proofs.StandLemmas.{stand_none}
use Rattle.model_steps.specs.After.{noted}
use Rattle.model_histories.specs.Legal.{IsReply}
use Rattle.model_values.specs.declared.state.AbstractPool.{AbstractPool}
use Rattle.model_histories.proofs.legal.noted_settled.Goals as goal

pub is_calls_entry-requires : goal.is_calls_entry-requires
unfolding noted
is_calls_entry-requires c = rw c.note.ensures c.requires.few

pub returns-clause-stands : goal.returns-clause-stands
returns-clause-stands c =
    let i = stand_none c.args.s.now c.args.e.now c.requires.settled in
    let e = c.is_calls_entry.ensures in (
      (λ t. i.1 (record {
        caller = (e.0 t).0;
        reply = subst (λ (s : AbstractPool). IsReply s c.args.e.now.who c.args.e.now.act) c.note.ensures (e.0 t).1;
      })),
      (λ m. let k = i.0 m in e.1 (k.caller, subst (λ (s : AbstractPool). IsReply s c.args.e.now.who c.args.e.now.act) (sym c.note.ensures) k.reply)),
    )
