use Rattle.std.proofs.Common.{ℕ, inl, arith}
use Rattle.h1_frames.specs.Units.{BeginsWithUnit, HasNoUnit}
use Rattle.h1_frames.specs.Heads.{HasUnit}
use Rattle.h1_frames.proofs.UnitLemmas.{unit_unique}
use Rattle.h1_frames.proofs.head.read_head.Goals as goal

pub returns-then-n-gt-UNIT_MAX : goal.returns-then-n-gt-UNIT_MAX
returns-then-n-gt-UNIT_MAX c =
    let there : BeginsWithUnit c.args.bytes.now c.in-Some.n = c.in-Some.ensures in
    inl (
      omega (arith, there.0),
      λ (n : ℕ) (u : HasUnit c.args.bytes.now n).
          let same = unit_unique c.args.bytes.now n c.in-Some.n u.0 there in
          let short = u.1 in
          omega arith,
    )

pub returns-then-bytes-ge-UNIT_MAX : goal.returns-then-bytes-ge-UNIT_MAX
returns-then-bytes-ge-UNIT_MAX c =
    let none : HasNoUnit c.args.bytes.now = c.in-None.ensures in
    inl (omega arith, λ (n : ℕ) (u : HasUnit c.args.bytes.now n). none n u.0)
