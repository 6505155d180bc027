use Rattle.std.proofs.Common.{◌≡◌, ◌∙◌, ◌<◌, ◌≤◌, true, false, List, ℕ, length, sym, subst, refl, arith}
use Rattle.std.proofs.lemmas.List.{take_all}
use Rattle.std.proofs.lemmas.List.Elements.{All-more}
use Rattle.std.proofs.lemmas.Option.{slice_get_read}
use Rattle.std.specs.List.{All}
use Rattle.net_base.specs.Identities.{IsName}
use Rattle.net_base.proofs.identity.first_bad_name.Goals as goal

pub returns-then-not-is_name : goal.returns-then-not-is_name
returns-then-not-is_name c =
    let names = c.args.names.now in
    let name : List ℕ = c.index-names-i.result in
    let within : c.loop-i.i < length names = c.loop-i-test.true in (
      (
        name,
        slice_get_read names (length names) c.loop-i.i name refl within c.index-names-i.is,
        λ is. let told : c.is_name.result ≡ true = c.is_name.ensures ∙ subst IsName (sym c.as_slice.ensures) is in
            let other : c.is_name.result ≡ false = c.if-not-is_name.true in cc,
      ),
      c.loop-i.invariant,
    )

pub loop-i-preserved : goal.loop-i-preserved
loop-i-preserved c =
    let names = c.args.names.now in
    let name : List ℕ = c.index-names-i.result in
    let is : IsName c.as_slice.result.now = sym c.is_name.ensures ∙ c.if-not-is_name.false in
    let read = c.as_slice.ensures ∙ c.index-names-i.is in
    All-more IsName names c.loop-i.i name c.loop-i-test.true c.loop-i.invariant (subst IsName read is)

pub returns : goal.returns
returns c =
    let names = c.args.names.now in
    let over : length names ≤ c.loop-i.i = omega arith in
    subst (λ (xs : List (List ℕ)). All IsName xs) (take_all c.loop-i.i names over) c.loop-i.invariant
