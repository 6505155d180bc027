-- What each value that a program holds is known to be: its numbers are of their types, and its octets are octets. What is said of
-- all values needs it, since those of statements may hold any numbers.
use Rattle.std.specs.Prelude.{◌≡◌, ⊤, ℕ, ◌≤◌, List, length, All, Option, Some, None}
use Rattle.hex.specs.Hex.{IsBytes}
use Rattle.net_base.specs.declared.end_cause.EndCause.{EndCause}
use Rattle.net_base.specs.declared.end_cause.EndCause.TheVariants.{DialFailed, End, LinkFault, Broken, Done}
use Rattle.net_base.specs.declared.field.Field.{Field}
use Rattle.net_base.specs.declared.numbers.Moment.{Moment}
use Rattle.partition_keys.specs.declared.alternative.Alternative.{Alternative}
use Rattle.partition_keys.specs.declared.alternative.AltUpdate.{AltUpdate}
use Rattle.partition_keys.specs.declared.alternative.AltUpdate.TheVariants as alt
use Rattle.partition_keys.specs.declared.alternative.Proof.{Proof}
use Rattle.partition_keys.specs.declared.alternative.Proof.TheVariants.{NotAsked, NotValid, Until}

-- numbers of 8, 16, 32 and 64 bits
abbrev pub Fits8 : ℕ → Type 0
Fits8 n = n ≤ 255

abbrev pub Fits16 : ℕ → Type 0
Fits16 n = n ≤ 65535

abbrev pub Fits32 : ℕ → Type 0
Fits32 n = n ≤ 4294967295

abbrev pub Fits64 : ℕ → Type 0
Fits64 n = n ≤ 18446744073709551615

-- ---- values

abbrev pub FieldFits : Field → Type 0
FieldFits f = IsBytes f.value

-- 16 octets
abbrev pub AddressFits : List ℕ → Type 0
AddressFits address = (length address ≡ 16) × IsBytes address

abbrev pub DeadlineFits : Option Moment → Type 0
DeadlineFits None = ⊤
DeadlineFits (Some m) = Fits64 m.0

abbrev pub AlternativeFits : Alternative → Type 0
AlternativeFits a = Fits16 a.port × Fits64 a.expires.0

abbrev pub AltFits : AltUpdate → Type 0
AltFits alt.None = ⊤
AltFits alt.Clear = ⊤
AltFits (alt.Set alternatives) = All AlternativeFits alternatives

abbrev pub ProofFits : Proof → Type 0
ProofFits NotAsked = ⊤
ProofFits (Until m) = Fits64 m.0
ProofFits (NotValid why) = ⊤

abbrev pub CauseFits : EndCause → Type 0
CauseFits DialFailed = ⊤
CauseFits End = ⊤
CauseFits LinkFault = ⊤
CauseFits (Broken code place) = Fits32 code × Fits64 place
CauseFits Done = ⊤
