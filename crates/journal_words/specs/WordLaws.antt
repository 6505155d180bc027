-- What is written is read back, of the definitions of words and of readers.
use Rattle.std.specs.Prelude.{◌≡◌, ◌<◌, ◌≤◌, ◌^◌, ℕ, Bool, List, All, IsTrue, Option, None, Ok}
use Rattle.std.specs.Fmt.{decimal}
use Rattle.hex.specs.Hex.{IsBytes, encode_lower}
use Rattle.net_base.specs.declared.end_cause.EndCause.{EndCause}
use Rattle.net_base.specs.declared.field.Field.{Field}
use Rattle.net_base.specs.declared.numbers.Moment.{Moment}
use Rattle.net_base.specs.declared.numbers.StreamNo.{StreamNo}
use Rattle.net_base.specs.declared.origin.Origin.{Origin}
use Rattle.net_base.specs.declared.target.Proto.{Proto}
use Rattle.net_base.specs.declared.target.Target.{Target}
use Rattle.partition_keys.specs.Sites.{IsSite, site_text}
use Rattle.partition_keys.specs.declared.alternative.AltUpdate.{AltUpdate}
use Rattle.partition_keys.specs.declared.alternative.Proof.{Proof}
use Rattle.partition_keys.specs.declared.key.PartitionKey.{PartitionKey}
use Rattle.model_values.specs.declared.entry.Way.{Way}
use Rattle.journal_words.specs.Ranges.{Fits16, Fits32, Fits64, FieldFits, AddressFits, DeadlineFits, AltFits, ProofFits, CauseFits}
use Rattle.journal_words.specs.Readers as reads
use Rattle.journal_words.specs.Words.{octets_text, deadline_text, credentials_text, security_text, proto_text, way_text, fields_text, addresses_text, streams_text, list_text, origin_text, target_words, alt_words, proof_words, cause_text}
use Rattle.journal_words.specs.Writable.{are_named, are_names, is_writable_alt}

-- numbers, octets and lists of them are read back from what is written for them
pub record NumbersAreReadBack : Type 0 where
  pub number : (most n : ℕ) → n ≤ most → most < 2 ^ 64 → reads.number most (decimal n) ≡ Ok n
  pub moment : (m : Moment) → Fits64 m.0 → reads.moment (decimal m.0) ≡ Ok m
  pub deadline : (d : Option Moment) → DeadlineFits d → reads.deadline (deadline_text d) ≡ Ok d
  pub stream : (s : StreamNo) → Fits32 s.0 → reads.stream (decimal s.0) ≡ Ok s
  pub streams : (list : List StreamNo) → All (λ (s : StreamNo). Fits32 s.0) list → reads.list reads.stream (streams_text list) ≡ Ok list
  pub octets : (bytes : List ℕ) → IsBytes bytes → reads.octets (octets_text bytes) ≡ Ok bytes
  pub address : (bytes : List ℕ) → AddressFits bytes → reads.address (encode_lower bytes) ≡ Ok bytes
  pub addresses : (list : List (List ℕ)) → All AddressFits list → reads.list reads.address (addresses_text list) ≡ Ok list

-- and so are choices, which have a word each
pub record ChoicesAreReadBack : Type 0 where
  pub credentials : (b : Bool) → reads.credentials (credentials_text b) ≡ Ok b
  pub security : (b : Bool) → reads.security (security_text b) ≡ Ok b
  pub proto : (p : Proto) → reads.proto (proto_text p) ≡ Ok p
  pub way : (w : Way) → reads.way_of (way_text w) ≡ Ok w
  pub cause : (c : EndCause) → CauseFits c → reads.cause (cause_text c) ≡ Ok c
  pub proof : (p : Proof) → ProofFits p → reads.proof_of (proof_words p) ≡ Ok p

-- and so is what says who is spoken to and how: fields and names that have words, keys of one part, origins, targets, and
-- what is said of alternatives
pub record PartsAreReadBack : Type 0 where
  pub fields : (list : List Field) → All FieldFits list → IsTrue (are_named list) → reads.list reads.field (fields_text list) ≡ Ok list
  pub names : (list : List (List ℕ)) → IsTrue (are_names list) → reads.list reads.name (list_text list) ≡ Ok list
  pub key : (k : PartitionKey) → IsSite k.site → k.second ≡ None → reads.key (site_text k.site) ≡ Ok k
  pub origin : (o : Origin) → Fits16 o.port → reads.origin (origin_text o) ≡ Ok o
  pub target : (t : Target) → Fits16 t.port → reads.target (target_words t) ≡ Ok t
  pub alt : (a : AltUpdate) → AltFits a → IsTrue (is_writable_alt a) → reads.alt_of (alt_words a) ≡ Ok a
