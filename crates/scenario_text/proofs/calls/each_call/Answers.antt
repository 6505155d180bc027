use Rattle.std.proofs.Common.{◌≡◌, ◌+◌, ◌<◌, length, Ok, ap, sym, ◌∙◌, arith}
use Rattle.net_base.proofs.Rests.{behind}
use Rattle.scenario_text.specs.Calls.{script_call}
use Rattle.scenario_text.proofs.CallLemmas.{call_at, submits_more}
use Rattle.scenario_walk.proofs.WalkLemmas.{each_more, from, item_at}
use Rattle.scenario_text.proofs.calls.each_call.Goals as goal

pub loop-place-preserved : goal.loop-place-preserved
loop-place-preserved c =
    let path = c.args.path.now in
    let calls = c.args.calls.now in
    let place = c.loop-place.place in
    let value = c.index-calls-place.result in
    let lt : place < length calls = omega arith in
    let gives : item_at script_call path calls place value ≡ Ok c.in_ok-call.call =
    call_at path c.in_ok-path.path calls place c.loop-place.submitted value _ c.loop-place.invariant.0 c.in_ok-path.ensures c.in_ok-call.ensures in (
      submits_more calls place value c.loop-place.submitted c.in_ok-submitted.submitted lt c.index-calls-place.is c.loop-place.invariant.0 c.in_ok-submitted.ensures,
      each_more script_call path calls place value c.loop-place.all c.in_ok-call.call _ lt c.index-calls-place.is gives c.loop-place.invariant.1
          ∙ ap (λ all. behind all (from script_call path calls (place + 1))) (sym c.in_ok-push.ensures.ok),
    )
