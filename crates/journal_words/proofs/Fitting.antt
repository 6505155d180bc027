-- What readers give fits: its numbers are of their types, and its octets are octets.
use Rattle.std.proofs.Common.{◌≡◌, refl, ℕ, ◌+◌, ◌/◌, ◌%◌, ◌≤◌, ◌==◌, nat_le, ◌&&◌, Bool, true, false, List, [], ◌∷◌, length, drop, bytes_eq, codes, decimal, All, Option, Some, None, Result, Ok, Err, IfOk, if◌then◌else◌, leb-true, eqb-true, arith}
use Rattle.std.specs.Str.Parse.{digits_value}
use Rattle.std.proofs.lemmas.List.Elements.{All-nil, All-cons}
use Rattle.hex.specs.Hex.{IsBytes, decode_of, decode_pairs, decode_sized}
use Rattle.hex.specs.declared.error.FromHexError.{FromHexError}
use Rattle.hex.specs.declared.error.FromHexError.TheVariants.{OddLength, InvalidStringLength}
use Rattle.hex.proofs.HexLemmas.{decode_of-ok, decode_pairs-ok}
use Rattle.net_base.specs.Results.{◌>>=◌}
use Rattle.net_base.specs.declared.numbers.Moment.{Moment}
use Rattle.net_base.specs.declared.numbers.StreamNo.{StreamNo}
use Rattle.net_base.specs.declared.origin.Origin.{Origin}
use Rattle.net_base.specs.declared.origin.Scheme.{Scheme}
use Rattle.net_base.specs.declared.origin.Scheme.TheVariants.{Http, Https}
use Rattle.net_base.specs.declared.target.Target.{Target}
use Rattle.partition_keys.specs.Sites.{begins}
use Rattle.journal_words.specs.Ranges.{Fits16, Fits32, Fits64, FieldFits, AddressFits, DeadlineFits, AlternativeFits, AltFits, ProofFits, CauseFits}
use Rattle.journal_words.specs.Readers.{Reader, number, decoded, hex, octets, address, deadline, moment, stream, field, field_of, each, list, parts, last_place, place, place_at, origin, origin_at, target, alternative, alternative_of, alt_of, proof_of, security, proto, persist, via_of, condition, cause, cause_of, unreadable}
use Rattle.journal_words.specs.declared.faults.WordFault.{WordFault}

-- ---- steps

-- what the value of two steps has, where that of the first has what the second needs
pub step : {A B E : Type 0} (P : A → Type 0) (Q : B → Type 0) (r : Result A E) (next : A → Result B E)
    → IfOk r P → ((x : A) → P x → IfOk (next x) Q) → IfOk (r >>= next) Q
step P Q (Ok x) next first others = others x first
step P Q (Err e) next first others = tt

-- the same, where nothing is needed of the first
pub past : {A B E : Type 0} (Q : B → Type 0) (r : Result A E) (next : A → Result B E) → ((x : A) → IfOk (next x) Q) → IfOk (r >>= next) Q
past Q (Ok x) next others = others x
past Q (Err e) next others = tt

-- what the values of both branches have
pub either : {A E : Type 0} (Q : A → Type 0) (b : Bool) (r s : Result A E) → IfOk r Q → IfOk s Q → IfOk (if b then r else s) Q
either Q true r s of_first of_second = of_first
either Q false r s of_first of_second = of_second

-- the same of a test of a word
pub by_word : {A E : Type 0} (Q : A → Type 0) (word text : List ℕ) (r s : Result A E) → IfOk r Q → IfOk s Q
    → IfOk (if bytes_eq word text then r else s) Q
by_word Q word text r s of_first of_second = either Q (bytes_eq word text) r s of_first of_second

-- what a value has that was given
pub of_given : {A E : Type 0} (Q : A → Type 0) (r : Result A E) (x : A) → IfOk r Q → r ≡ Ok x → Q x
of_given Q r x has is = rw is at has

-- ---- numbers and octets

within : (most n : ℕ) (below same : Bool) → nat_le n most ≡ below → IfOk {T = ℕ} {E = WordFault} (if below && same then Ok n else unreadable) (λ k. k ≤ most)
within most n true true is = leb-true n most is
within most n true false is = tt
within most n false same is = tt

pub number_fits : (most : ℕ) (word : List ℕ) → IfOk (number most word) (λ n. n ≤ most)
number_fits most word =
    within most (digits_value 10 word) (nat_le (digits_value 10 word) most) (bytes_eq word (decimal (digits_value 10 word))) refl

abbrev pub MomentFits : Moment → Type 0
MomentFits m = Fits64 m.0

pub moment_fits : (word : List ℕ) → IfOk (moment word) MomentFits
moment_fits word = step Fits64 MomentFits _ _ (number_fits 18446744073709551615 word) (λ n fits. fits)

pub deadline_fits : (word : List ℕ) → IfOk (deadline word) DeadlineFits
deadline_fits word = by_word DeadlineFits word (codes "-") _ _ tt (step MomentFits DeadlineFits _ _ (moment_fits word) (λ m fits. fits))

abbrev pub StreamFits : StreamNo → Type 0
StreamFits s = Fits32 s.0

pub stream_fits : (word : List ℕ) → IfOk (stream word) StreamFits
stream_fits word = step Fits32 StreamFits _ _ (number_fits 4294967295 word) (λ n fits. fits)

decoded_fits : (P : List ℕ → Type 0) (r : Result (List ℕ) FromHexError) → ((xs : List ℕ) → r ≡ Ok xs → P xs) → IfOk (decoded r) P
decoded_fits P (Ok xs) has = has xs refl
decoded_fits P (Err e) has = tt

pub hex_fits : (word : List ℕ) → IfOk (hex word) IsBytes
hex_fits word = decoded_fits IsBytes (decode_of word) (λ xs is. (decode_of-ok word xs is).3)

pub octets_fits : (word : List ℕ) → IfOk (octets word) IsBytes
octets_fits word = by_word IsBytes word (codes "-") _ _ (λ i. omega arith) (hex_fits word)

sized : (text xs : List ℕ) (n : ℕ) (odd same : Bool) → (length text / 2 == n) ≡ same
    → (if odd then Err OddLength else if same then decode_pairs 0 text else Err InvalidStringLength) ≡ Ok xs → (length xs ≡ n) × IsBytes xs
sized text xs n true same long is = absurd (cc)
sized text xs n false true long is =
    let pairs = decode_pairs-ok 0 text xs is in (omega (arith, pairs.1, eqb-true (length text / 2) n long), pairs.2)
sized text xs n false false long is = absurd (cc)

pub address_fits : (word : List ℕ) → IfOk (address word) AddressFits
address_fits word =
    decoded_fits AddressFits (decode_sized word 16) (λ xs is. sized word xs 16 (length word % 2 == 1) (length word / 2 == 16) refl is)

-- ---- lists and fields

pub each_fits : {A : Type 0} (P : A → Type 0) (read : Reader A) → ((word : List ℕ) → IfOk (read word) P)
    → (words : List (List ℕ)) → IfOk (each read words) (All P)
each_fits P read fits [] = All-nil P
each_fits P read fits (word ∷ words) =
    step P (All P) _ _ (fits word) (λ x one. step (All P) (All P) _ _ (each_fits P read fits words) (λ xs others. All-cons P x xs one others))

pub list_fits : {A : Type 0} (P : A → Type 0) (read : Reader A) → ((word : List ℕ) → IfOk (read word) P)
    → (word : List ℕ) → IfOk (list read word) (All P)
list_fits P read fits word = by_word (All P) word (codes "-") _ _ (All-nil P) (each_fits P read fits (parts 44 word))

field_of_fits : (words : List (List ℕ)) → IfOk (field_of words) FieldFits
field_of_fits [] = tt
field_of_fits (a ∷ []) = tt
field_of_fits (named ∷ digits ∷ []) = step IsBytes FieldFits _ _ (hex_fits digits) (λ value fits. fits)
field_of_fits (a ∷ b ∷ c ∷ others) = tt

pub field_fits : (word : List ℕ) → IfOk (field word) FieldFits
field_fits word = field_of_fits (parts 58 word)

-- ---- origins and targets

abbrev PlaceFits : List ℕ × ℕ → Type 0
PlaceFits at = Fits16 at.1

place_at_fits : (word : List ℕ) (o : Option ℕ) → IfOk (place_at word o) PlaceFits
place_at_fits word None = tt
place_at_fits word (Some i) = step Fits16 PlaceFits _ _ (number_fits 65535 (drop (i + 1) word)) (λ port fits. fits)

place_fits : (word : List ℕ) → IfOk (place word) PlaceFits
place_fits word = place_at_fits word (last_place 58 word)

abbrev pub OriginFits : Origin → Type 0
OriginFits o = Fits16 o.port

origin_at_fits : (scheme : Scheme) (word : List ℕ) → IfOk (origin_at scheme word) OriginFits
origin_at_fits scheme word = step PlaceFits OriginFits _ _ (place_fits word) (λ at fits. fits)

pub origin_fits : (word : List ℕ) → IfOk (origin word) OriginFits
origin_fits word =
    either OriginFits (begins (codes "http://") word) _ _ (origin_at_fits Http (drop 7 word))
    (either OriginFits (begins (codes "https://") word) _ _ (origin_at_fits Https (drop 8 word)) tt)

abbrev pub TargetFits : Target → Type 0
TargetFits t = Fits16 t.port

pub target_fits : (words : List (List ℕ)) → IfOk (target words) TargetFits
target_fits [] = tt
target_fits (a ∷ []) = tt
target_fits (a ∷ b ∷ []) = tt
target_fits (at ∷ secured ∷ by ∷ []) =
    step PlaceFits TargetFits _ _ (place_fits at) (λ goes fits. past TargetFits (security secured) _ (λ secure. past TargetFits (via_of by) _ (λ via. fits)))
target_fits (a ∷ b ∷ c ∷ d ∷ others) = tt

-- ---- alternatives and proofs

alternative_of_fits : (words : List (List ℕ)) → IfOk (alternative_of words) AlternativeFits
alternative_of_fits [] = tt
alternative_of_fits (a ∷ []) = tt
alternative_of_fits (a ∷ b ∷ []) = tt
alternative_of_fits (a ∷ b ∷ c ∷ []) = tt
alternative_of_fits (a ∷ b ∷ c ∷ d ∷ []) = tt
alternative_of_fits (speaks ∷ host ∷ digits ∷ when ∷ kept ∷ []) =
    past AlternativeFits (proto speaks) _ (λ proto.
    step Fits16 AlternativeFits _ _ (number_fits 65535 digits) (λ port of_port.
    step MomentFits AlternativeFits _ _ (moment_fits when) (λ expires of_expiry. past AlternativeFits (persist kept) _ (λ persist. (of_port, of_expiry)))))
alternative_of_fits (a ∷ b ∷ c ∷ d ∷ e ∷ f ∷ others) = tt

pub alternative_fits : (word : List ℕ) → IfOk (alternative word) AlternativeFits
alternative_fits word = alternative_of_fits (parts 47 word)

pub alt_of_fits : (words : List (List ℕ)) → IfOk (alt_of words) AltFits
alt_of_fits [] = tt
alt_of_fits (word ∷ []) = by_word AltFits word (codes "none") _ _ tt (by_word AltFits word (codes "clear") _ _ tt tt)
alt_of_fits (word ∷ listed ∷ []) =
    by_word AltFits word (codes "set") _ _ (step (All AlternativeFits) AltFits _ _ (list_fits AlternativeFits alternative alternative_fits listed) (λ all fits. fits)) tt
alt_of_fits (a ∷ b ∷ c ∷ others) = tt

pub proof_of_fits : (words : List (List ℕ)) → IfOk (proof_of words) ProofFits
proof_of_fits [] = tt
proof_of_fits (word ∷ []) = by_word ProofFits word (codes "none") _ _ tt tt
proof_of_fits (word ∷ more ∷ []) =
    by_word ProofFits word (codes "until") _ _ (step MomentFits ProofFits _ _ (moment_fits more) (λ m fits. fits))
    (by_word ProofFits word (codes "bad") _ _ (past ProofFits (condition more) _ (λ why. tt)) tt)
proof_of_fits (a ∷ b ∷ c ∷ others) = tt

-- ---- ends

cause_of_fits : (words : List (List ℕ)) → IfOk (cause_of words) CauseFits
cause_of_fits [] = tt
cause_of_fits (word ∷ []) =
    by_word CauseFits word (codes "dial") _ _ tt
    (by_word CauseFits word (codes "end") _ _ tt (by_word CauseFits word (codes "fault") _ _ tt (by_word CauseFits word (codes "done") _ _ tt tt)))
cause_of_fits (a ∷ b ∷ []) = tt
cause_of_fits (word ∷ digits ∷ more ∷ []) =
    by_word CauseFits word (codes "broken") _ _ (step Fits32 CauseFits _ _ (number_fits 4294967295 digits) (λ code of_code.
    step Fits64 CauseFits _ _ (number_fits 18446744073709551615 more) (λ at of_at. (of_code, of_at)))) tt
cause_of_fits (a ∷ b ∷ c ∷ d ∷ others) = tt

pub cause_fits : (word : List ℕ) → IfOk (cause word) CauseFits
cause_fits word = cause_of_fits (parts 58 word)
