-- What reads of a source gave, and what writes to a sink put, taken together.
use Rattle.std.proofs.Common.{◌≡◌, ℕ, ◌+◌, ◌-◌, ◌<◌, ◌≤◌, List, [], ◌++◌, length, take, drop, Option, None, Some, refl, ap, sym, subst, ◌∙◌, arith, append_assoc, append-nil, length-drop}
use Rattle.std.proofs.lemmas.Grind.{common_steps}
use Rattle.plain_values.specs.Fronts.{IsFrontOf}
use Rattle.plain_values.proofs.Fronts.{front_more, piece_more, piece_fits}
use Rattle.edge_traits.specs.Counts.{Rose}
use Rattle.edge_traits.specs.Told.{Gave, Grew, IsNoneLeft}
use Rattle.edge_traits.specs.Sources.{SourceView, SourceGave}
use Rattle.edge_traits.specs.Sinks.{SinkView, SinkTook, SinkFailed}
use Rattle.edge_traits.proofs.Steps.{rose_later, grew_none, grew_same, grew_trans}
use Rattle.pool_run.specs.Streams.{IsAllOf, HadFront, WritesFront}

-- a source gave these octets, in some reads
pub record HasGiven (before after : SourceView) (bytes : List ℕ) : Type 0 where
  pub faults : before.faults ≤ after.faults
  pub left : Gave before.left bytes after.left

gave_none : (a : Option (List ℕ)) → Gave a [] a
gave_none None = refl
gave_none (Some xs) = refl

gave_trans : (a b c : Option (List ℕ)) (xs ys : List ℕ) → Gave a xs b → Gave b ys c → Gave a (xs ++ ys) c
gave_trans None None c xs ys g h = h
gave_trans None (Some bs) c xs ys g h = cc
gave_trans (Some zs) None c xs ys g h = absurd g
gave_trans (Some zs) (Some bs) None xs ys g h = absurd h
gave_trans (Some zs) (Some bs) (Some cs) xs ys g h = rw append_assoc (g ∙ ap (λ (l : List ℕ). xs ++ l) h)

pub given_none : (v : SourceView) → HasGiven v v []
given_none v = record { faults = omega arith; left = gave_none v.left }

-- one read more
pub given_more : (u v w : SourceView) (bytes buffer : List ℕ) (size n : ℕ) → HasGiven u v bytes → SourceGave v w size buffer n → HasGiven u w (bytes ++ take n buffer)
given_more u v w bytes buffer size n h g = record {
  faults = omega (arith, h.faults, g.faults);
  left = gave_trans u.left v.left w.left bytes (take n buffer) h.left g.left;
}

-- what a source gave is all, where none is left
pub given_all : (a b : Option (List ℕ)) (bytes : List ℕ) → Gave a bytes b → IsNoneLeft b → IsAllOf a bytes
given_all None b bytes g e = tt
given_all (Some xs) None bytes g e = absurd g
given_all (Some xs) (Some ys) bytes g e = g ∙ (ap (λ (l : List ℕ). bytes ++ l) e ∙ append-nil bytes)

-- what a source gave is a front of what it had left
pub given_front : (a b : Option (List ℕ)) (bytes : List ℕ) → Gave a bytes b → HadFront a bytes
given_front None b bytes g = tt
given_front (Some xs) None bytes g = absurd g
given_front (Some xs) (Some ys) bytes g = subst (IsFrontOf bytes) (sym g) (front_more bytes ys)

-- a sink was given these octets, in some writes
pub record HasPut (before after : SinkView) (bytes : List ℕ) : Type 0 where
  pub faults : before.faults ≤ after.faults
  pub written : Grew before.written bytes after.written

pub put_none : (v : SinkView) → HasPut v v []
put_none v = record { faults = omega arith; written = grew_none v.written }

-- one write more
pub put_more : (u v w : SinkView) (s : List ℕ) (i n : ℕ) → HasPut u v (take i s) → SinkTook v w (take (length s - i) (drop i s)) n → HasPut u w (take (i + n) s)
put_more u v w s i n h t = record {
  faults = omega (arith, h.faults, t.faults);
  written = rw (piece_more s i n t.fits) at (grew_trans u.written v.written w.written (take i s) (take n (take (length s - i) (drop i s))) h.written t.written);
}

cut : (s : List ℕ) (i : ℕ) → s ≡ take i s ++ drop i s
cut s i = grind (arith, common_steps)

some_behind : (s : List ℕ) (i : ℕ) → i < length s → 0 < length (drop i s)
some_behind s i lt = omega (arith, length-drop i s)

-- a front of the text was written
written_front : (u v : SinkView) (s : List ℕ) (i : ℕ) → i < length s → HasPut u v (take i s) → WritesFront u s v
written_front u v s i lt h = (take i s, drop i s, cut s i, some_behind s i lt, h.written)

-- nothing was taken of the rest
pub front_refused : (u v w : SinkView) (s : List ℕ) (i n : ℕ) → i < length s → HasPut u v (take i s) → SinkTook v w (take (length s - i) (drop i s)) n → n ≡ 0
    → Rose u.faults w.faults × WritesFront u s w
front_refused u v w s i n lt h t none = (rose_later _ _ _ h.faults (t.none none), written_front u w s (i + n) (omega (arith, lt, none)) (put_more u v w s i n h t))

-- the write of the rest failed
pub front_failed : (u v w : SinkView) (s : List ℕ) (i : ℕ) → i < length s → HasPut u v (take i s) → SinkFailed v w → Rose u.faults w.faults × WritesFront u s w
front_failed u v w s i lt h f =
    (rose_later _ _ _ h.faults f.faults, (take i s, drop i s, cut s i, some_behind s i lt, grew_same u.written v.written (take i s) w.written h.written f.written))

-- there was no memory to write the rest
pub front_kept : (u v w : SinkView) (s : List ℕ) (i : ℕ) → i < length s → HasPut u v (take i s) → w ≡ v → WritesFront u s w
front_kept u v w s i lt h same = rw same (written_front u v s i lt h)
