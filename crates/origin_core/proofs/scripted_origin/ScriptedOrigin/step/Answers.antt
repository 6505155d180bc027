use Rattle.std.proofs.Common.{rules, ◌≡◌, ◌++◌, List, ℕ, subst, refl, drop}
use Rattle.origin_core.specs.declared.scripted_request.NextRequest.{NextRequest}
use Rattle.origin_core.specs.declared.scripted_request.NextRequest.TheVariants.{Whole}
use Rattle.origin_core.specs.ScriptedRequests.{IsNext}
use Rattle.origin_core.specs.ScriptedAnswers.{text_for}
use Rattle.origin_core.proofs.Origins.{origin_more, origin_same}
use Rattle.origin_core.proofs.scripted_origin.ScriptedOrigin.step.Goals as goal

pub returns-in-Unfinished-clause-step : goal.returns-in-Unfinished-clause-step
returns-in-Unfinished-clause-step c =
    let rest = drop c.args.self.now.answered c.args.input.now in
    let P : List ℕ → Type 0 = λ s. IsNext s c.in_ok-next_request.field-0 in
    let Q : NextRequest → Type 0 = IsNext rest in
    subst Q c.in-Unfinished.is (subst P c.behind.ensures c.in_ok-next_request.ensures)

pub returns-in_ok-extend-in-Whole-clause-at : goal.returns-in_ok-extend-in-Whole-clause-at
returns-in_ok-extend-in-Whole-clause-at c =
    let rest = drop c.args.self.now.answered c.args.input.now in
    let P : List ℕ → Type 0 = λ s. IsNext s c.in_ok-next_request.field-0 in
    let Q : NextRequest → Type 0 = IsNext rest in
    let next : IsNext rest (Whole c.in-Whole.asked c.in-Whole.n) = subst Q c.in-Whole.is (subst P c.behind.ensures c.in_ok-next_request.ensures) in
    let put : c.extend.new.self ≡ c.args.self.now.put ++ text_for c.args.peer.now.answers c.in-Whole.asked = search rules in
    origin_more c.args.peer.now c.args.input.now c.args.self.now _ c.in-Whole.n c.in-Whole.asked c.requires next.1 next.2 refl put

pub returns-in_err-extend-in-Whole-clause-at : goal.returns-in_err-extend-in-Whole-clause-at
returns-in_err-extend-in-Whole-clause-at c =
    let put : c.extend.new.self ≡ c.args.self.now.put = search rules in
    origin_same c.args.peer.now c.args.input.now c.args.self.now _ c.requires refl put
