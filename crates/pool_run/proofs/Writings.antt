-- What the writes of a round took, write after write.
use Rattle.std.proofs.Common.{◌≡◌, ℕ, ◌+◌, ◌-◌, ◌<◌, ◌≤◌, List, [], ◌++◌, length, take, drop, refl, sym, subst, ap, ◌∙◌, arith, append_assoc, length-append, length-take, length-drop, append-nil}
use Rattle.std.proofs.lemmas.List.{take-append-drop}
use Rattle.std.proofs.lemmas.Grind.{common_steps}
use Rattle.edge_traits.specs.Counts.{Rose}
use Rattle.edge_traits.specs.Links.{LinkView, LinkKeeps, LinkTook, LinkSame}
use Rattle.edge_traits.proofs.Steps.{did_none, took_more, same_more}
use Rattle.pool_run.specs.Conversation.{Spoke}

-- no write
pub said_none : (v : LinkView) (output : List ℕ) → (put : List ℕ) × Spoke v v output put [] × (0 ≡ length put) × (0 ≤ 0)
said_none v output = ([], record { did = did_none v; rest = output; begins = refl }, refl, omega arith)

pub drop_put : (put rest : List ℕ) → drop (length put) (put ++ rest) ≡ rest
drop_put put rest = grind (arith, common_steps)

-- what is out is no longer than the output
pub said_fits : (u v : LinkView) (output put got : List ℕ) (n : ℕ) → Spoke u v output put got → n ≡ length put → n ≤ length output
said_fits u v output put got n s is = omega (arith, length-append put s.rest, ap length s.begins)

-- a piece that is left isn't empty
pub some_left : (output : List ℕ) (n : ℕ) → n ≤ length output → (n ≡ length output → ⊥) → 0 < length (take (length output - n) (drop n output))
some_left output n le apart =
    let lt : n < length output = omega (arith, apart) in
    omega (arith, length-take (length output - n) (drop n output), length-drop n output)

-- the piece that is still to be written
pub piece_rest : (u v : LinkView) (output put got : List ℕ) (n : ℕ) (s : Spoke u v output put got) → n ≡ length put → take (length output - n) (drop n output) ≡ s.rest
piece_rest u v output put got n s is =
    let e : drop n output ≡ s.rest = rw (is, s.begins) (drop_put put s.rest) in
    let f : length output - n ≡ length s.rest = omega (arith, length-append put s.rest, ap length s.begins) in
    rw (e, f) (grind (arith, common_steps))

-- a write that took octets of what is left comes after
pub said_more : (u v w : LinkView) (output put got : List ℕ) (n taken k : ℕ) → Spoke u v output put got → n ≡ length put → k ≤ n → (taken ≡ 0 → ⊥)
    → LinkKeeps v w → LinkTook v w (take (length output - n) (drop n output)) taken
    → (longer : List ℕ) × Spoke u w output longer got × (n + taken ≡ length longer) × (k + 1 ≤ n + taken)
said_more u v w output put got n taken k s is le some keeps took =
    let piece = take (length output - n) (drop n output) in
    let e : piece ≡ s.rest = piece_rest u v output put got n s is in
    let d = took_more u v w put got piece taken s.did keeps took in
    let more : length (take taken piece) ≡ taken = omega (arith, length-take taken piece, took.fits) in
    let begins : output ≡ (put ++ take taken piece) ++ drop taken piece =
    s.begins ∙ ap (λ (l : List ℕ). put ++ l) (sym e ∙ sym (take-append-drop taken piece)) ∙ sym (append_assoc put (take taken piece) (drop taken piece)) in
    (put ++ take taken piece, record { did = d; rest = drop taken piece; begins = begins }, omega (arith, length-append put (take taken piece), more), omega (arith, some))

-- a write that took nothing comes after
pub said_nothing : (u v w : LinkView) (output put got piece : List ℕ) (n : ℕ) → Spoke u v output put got → LinkKeeps v w → LinkTook v w piece n → n ≡ 0
    → (same : List ℕ) × Spoke u w output same got × Rose u.counts.faults w.counts.faults
said_nothing u v w output put got piece n s keeps took z =
    let d = rw (z, append-nil) at (took_more u v w put got piece n s.did keeps took) in
    (put, record { did = d; rest = s.rest; begins = s.begins }, omega (arith, took.none z, s.did.keeps.counts.faults))

-- a write by which nothing went comes after
pub said_same : (u v w : LinkView) (output put got : List ℕ) → Spoke u v output put got → LinkKeeps v w → LinkSame v w → Spoke u w output put got
said_same u v w output put got s keeps same =
    record { did = same_more u v w put got s.did keeps same; rest = s.rest; begins = s.begins }

-- a call that changed nothing comes after
pub said_unchanged : (u v w : LinkView) (output got put : List ℕ) → Spoke u v output put got → w ≡ v → (same : List ℕ) × Spoke u w output same got
said_unchanged u v w output got put s is = let P : LinkView → Type 0 = λ x. Spoke u x output put got in (put, subst P (sym is) s)
