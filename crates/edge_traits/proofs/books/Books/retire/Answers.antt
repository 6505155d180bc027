use Rattle.std.proofs.Common.{rules, [], ◌∷◌, ◌++◌, refl, ◌≡◌, ℕ, ◌⊎◌, List, Some, None, inl, inr}
use Rattle.edge_traits.specs.Dialers.{LogLine}
use Rattle.edge_traits.proofs.books.Books.retire.Goals as goal

all_told : (written received : List ℕ) (P : Type 0) → (Some written ≡ None) ⊎ (Some received ≡ None) → P
all_told written received P (inl e) = cc
all_told written received P (inr e) = cc

told : (before after lines : List LogLine) (w r written received : List ℕ) (conn : ℕ)
    → after ≡ before ++ record { conn = conn; written = w; received = r } ∷ []
    → Some before ≡ Some lines → Some w ≡ Some written → Some r ≡ Some received
    → Some after ≡ Some (lines ++ record { conn = conn; written = written; received = received } ∷ [])
told before after lines w r written received conn e b f g =
    let eb : before ≡ lines = cc in let ew : w ≡ written = cc in let er : r ≡ received = cc in rw (e, eb, ew, er) refl

pub returns-clause-law : goal.returns-clause-law
returns-clause-law c = record {
  counts = search rules;
  kept = c.add.ensures.keeps;
  left = search rules;
  out = search rules;
  log = λ lines written received b f g. told _ _ lines c.args.written.items c.args.received.items written received c.args.conn.0 c.take_back.ensures.log b f g;
  untold = search rules;
  no_line = all_told c.args.written.items c.args.received.items _;
  records = search rules;
  staged = search rules;
}
