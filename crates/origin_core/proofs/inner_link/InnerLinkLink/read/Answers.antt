use Rattle.std.proofs.Common.{◌≡◌, ◌≤◌, ◌++◌, ◌∙◌, sym, inl, arith, Bool, true, false, subst, List, ℕ, length, length-append}
use Rattle.plain_values.specs.Fronts.{IsFrontOf}
use Rattle.plain_values.proofs.Fronts.{front_on}
use Rattle.origin_core.specs.ScriptedOrigin.{put_of, Puts}
use Rattle.origin_core.proofs.InnerLinks.{all_given, gives_put, given_more, some_octets}
use Rattle.origin_core.proofs.inner_link.InnerLinkLink.read.Goals as goal

pub answer-requires : goal.answer-requires
answer-requires c = rw c.as_slice.ensures.value c.args.self.now.origin_at

pub invariant_of-self-in_default : goal.invariant_of-self-in_default
invariant_of-self-in_default c = record {
  within = c.args.self.now.within;
  short = c.args.self.now.short;
  origin_at = rw c.as_slice.ensures.value at c.answer.ensures.at;
  given = front_on c.args.self.now.received.items (put_of c.args.self.now.origin) (put_of c.answer.new.self) c.args.self.now.given c.answer.ensures.front;
}

pub invariant_of-self-then-over : goal.invariant_of-self-then-over
invariant_of-self-then-over c = record {
  within = c.args.self.now.within;
  short = c.args.self.now.short;
  origin_at = rw c.as_slice.ensures.value at c.answer.ensures.at;
  given = front_on c.args.self.now.received.items (put_of c.args.self.now.origin) (put_of c.answer.new.self) c.args.self.now.given c.answer.ensures.front;
}

pub invariant_of-self-then-is_empty : goal.invariant_of-self-then-is_empty
invariant_of-self-then-is_empty c = record {
  within = c.args.self.now.within;
  short = c.args.self.now.short;
  origin_at = rw c.as_slice.ensures.value at c.answer.ensures.at;
  given = front_on c.args.self.now.received.items (put_of c.args.self.now.origin) (put_of c.answer.new.self) c.args.self.now.given c.answer.ensures.front;
}

pub invariant_of-self-then-is_err : goal.invariant_of-self-then-is_err
invariant_of-self-then-is_err c =
    let h : c.extend_from_slice.new.self.items ≡ c.args.self.now.received.items = rw c.if-is_err.ensures.negation at c.extend_from_slice.ensures.items in
    let P : List ℕ → Type 0 = λ s. length s ≤ c.args.self.now.place.allowance in
    let Q : List ℕ → Type 0 = λ s. IsFrontOf s (put_of c.answer.new.self) in
    record {
      within = subst P (sym h) c.args.self.now.within;
      short = c.args.self.now.short;
      origin_at = rw c.as_slice.ensures.value at c.answer.ensures.at;
      given = subst Q (sym h) (front_on c.args.self.now.received.items (put_of c.args.self.now.origin) (put_of c.answer.new.self) c.args.self.now.given c.answer.ensures.front);
    }

pub invariant_of-self-2 : goal.invariant_of-self-2
invariant_of-self-2 c =
    let piece = c.next_piece-piece.result.now in
    let received = c.args.self.now.received.items in
    let h : c.extend_from_slice.new.self.items ≡ received ++ piece = rw c.if-is_err.ensures.negation at c.extend_from_slice.ensures.items in
    let P : List ℕ → Type 0 = λ s. length s ≤ c.args.self.now.place.allowance in
    let fits : length (received ++ piece) ≤ c.args.self.now.place.allowance
    = omega (arith, length-append received piece, c.next_piece-piece.ensures.room, c.len.ensures, c.args.self.now.within) in
    record {
      within = subst P (sym h) fits;
      short = c.args.self.now.short;
      origin_at = rw c.as_slice.ensures.value at c.answer.ensures.at;
      given = given_more received c.as_slice-2.result.now piece c.extend_from_slice.new.self.items c.put.result.now (put_of c.answer.new.self)
          c.as_slice-2.ensures.value c.put.ensures h c.next_piece-piece.ensures.next;
    }

pub returns-then-over-clause-puts : goal.returns-then-over-clause-puts
returns-then-over-clause-puts c =
    let R : Bool → Type 0 = λ b. Puts c.args.self.now.peer c.as_slice.result.now (put_of c.answer.new.self) b in
    inl (all_given c.args.self.now.peer c.args.self.now.written.items c.as_slice.result.now c.put.result.now (put_of c.answer.new.self)
    c.args.self.now.received.items c.as_slice-2.result.now c.next_piece-piece.result.now true (subst R c.if-over.true c.in-Ok.ensures.puts)
    c.as_slice.ensures.value c.put.ensures c.as_slice-2.ensures.value c.next_piece-piece.ensures.all (sym c.if-is_empty.true ∙ c.is_empty.ensures))

pub returns-then-is_empty-clause-puts : goal.returns-then-is_empty-clause-puts
returns-then-is_empty-clause-puts c =
    let R : Bool → Type 0 = λ b. Puts c.args.self.now.peer c.as_slice.result.now (put_of c.answer.new.self) b in
    all_given c.args.self.now.peer c.args.self.now.written.items c.as_slice.result.now c.put.result.now (put_of c.answer.new.self)
    c.args.self.now.received.items c.as_slice-2.result.now c.next_piece-piece.result.now false (subst R c.if-over.false c.in-Ok.ensures.puts)
    c.as_slice.ensures.value c.put.ensures c.as_slice-2.ensures.value c.next_piece-piece.ensures.all (sym c.if-is_empty.true ∙ c.is_empty.ensures)

pub returns-clause-puts : goal.returns-clause-puts
returns-clause-puts c =
    let piece = c.next_piece-piece.result.now in
    let h : c.extend_from_slice.new.self.items ≡ c.args.self.now.received.items ++ piece = rw c.if-is_err.ensures.negation at c.extend_from_slice.ensures.items in (
      some_octets piece (sym c.if-is_empty.false ∙ c.is_empty.ensures),
      gives_put c.args.self.now.peer c.args.self.now.written.items c.as_slice.result.now c.put.result.now (put_of c.answer.new.self)
          c.args.self.now.received.items c.as_slice-2.result.now piece c.extend_from_slice.new.self.items c.in-Ok.over c.in-Ok.ensures.puts
          c.as_slice.ensures.value c.put.ensures c.as_slice-2.ensures.value c.next_piece-piece.ensures.next h,
    )
