-- The one form of answer that is read so far: a whole response whose length is told (RFC 9112, sections 4 to 6).
use Rattle.std.specs.Prelude.{◌≡◌, ◌⊎◌, ◌<◌, ◌≤◌, ◌+◌, ℕ, Bool, false, List, [], length, drop, codes, bytes_eq, count_by, find, Some}
use Rattle.std.specs.List.{list_any, AllPass}
use Rattle.std.specs.Char.{is_ascii_digit}
use Rattle.std.specs.Str.Parse.{digits_value}
use Rattle.net_base.specs.declared.field.Field.{Field}
use Rattle.net_base.specs.declared.response.Response.{Response}
use Rattle.h1_frames.specs.declared.head.Head.{Head}
use Rattle.h1_frames.specs.declared.head.HeadRead.TheVariants.{Whole, Part, Refused}
use Rattle.h1_frames.specs.Heads.{IsRead}
use Rattle.small_form.specs.declared.form.TheConstants.{MOST_BODY}
use Rattle.pool_run.specs.declared.first_answer.Standing.{Standing}
use Rattle.pool_run.specs.declared.first_answer.Standing.TheVariants as standing

-- the field has this name, which is in lower case
abbrev pub is_named : List ℕ → Field → Bool
is_named name f = bytes_eq f.name name

-- the value of a content-length: digits whose number is at most that of the octets of a body (RFC 9110, section 8.6)
pub record IsLength (value : List ℕ) (n : ℕ) : Type 0 where
  pub some : 0 < length value
  pub digits : AllPass is_ascii_digit value
  pub number : n ≡ digits_value 10 value
  pub within : n ≤ MOST_BODY

-- version 1.1, status 200, one content-length, no transfer-encoding and no connection field
pub record IsFirstHead (head : Head) (n : ℕ) : Type 0 where
  pub minor : head.minor ≡ 1
  pub status : head.status ≡ 200
  pub no_coding : list_any (is_named (codes "transfer-encoding")) head.fields ≡ false
  pub no_options : list_any (is_named (codes "connection")) head.fields ≡ false
  pub one_length : count_by (is_named (codes "content-length")) head.fields ≡ 1
  pub field : Field
  pub found : find (is_named (codes "content-length")) head.fields ≡ Some field
  pub length : IsLength field.value n

-- the octets begin with a unit that is such a head
pub record BeginsFirst (received : List ℕ) (head : Head) (unit n : ℕ) : Type 0 where
  pub read : IsRead received (Whole head unit)
  pub form : IsFirstHead head n

-- the octets are such a head and a body of that length, and nothing else
pub record IsFirstAnswer (received : List ℕ) (response : Response) : Type 0 where
  pub head : Head
  pub unit : ℕ
  pub n : ℕ
  pub begins : BeginsFirst received head unit n
  pub whole : length received ≡ unit + n
  pub is : response ≡ record { status = head.status; fields = head.fields; body = drop unit received; trailers = [] }

-- how the octets received so far stand to an answer: more must come, it is whole, or it can't become one
abbrev pub Stands : List ℕ → Standing → Type 0
Stands received standing.More =
    IsRead received Part ⊎ ((head : Head) × (unit : ℕ) × (n : ℕ) × BeginsFirst received head unit n × (length received < unit + n))
Stands received (standing.Whole response) = IsFirstAnswer received response
Stands received standing.Other =
    IsRead received Refused
    ⊎ (((head : Head) × (unit : ℕ) × IsRead received (Whole head unit) × ((n : ℕ) → ¬ (IsFirstHead head n)))
    ⊎ ((head : Head) × (unit : ℕ) × (n : ℕ) × BeginsFirst received head unit n × (unit + n < length received)))
