-- The faults that the walk may have: that there was no memory, or no JSON, aren't among them.
use Rattle.std.specs.Prelude.{⊤}
use Rattle.std.proofs.Common.{ℕ, List, [], ◌∷◌, ◌++◌, Bool, true, false, nat_le, Option, Some, None, Result, Ok, Err, decimal, length, if◌then◌else◌}
use Rattle.serde_json.specs.Data.{Data, Members, null, boolean, number, string, array, object}
use Rattle.serde_json.specs.Find.{get, as_object}
use Rattle.net_base.specs.Results.{◌>>=◌, ◌>>◌}
use Rattle.net_base.specs.Hosts.{is_plain_host}
use Rattle.net_base.specs.Identities.{is_name}
use Rattle.scenario_walk.specs.Faults.{Reader, bad, or_bad, member_or, required, optional, object_in, an_object, none_unknown, first_unknown, only_in, only, any_items, at_most, items, each_behind, list_behind, list, any_list, below}
use Rattle.scenario_walk.specs.Values.{flag, text, text_that, text_within, whole, some, word, host, name, address, site, moment_or_none, field, field_of, good_field}
use Rattle.scenario_walk.specs.declared.fault.ScenarioFault.{ScenarioFault}
use Rattle.scenario_walk.specs.declared.fault.ScenarioFault.TheVariants.{NoMem, NotJson, Unsupported, BadValue, TooMany}

abbrev pub IsOfWalk : ScenarioFault → Type 0
IsOfWalk NoMem = ⊥
IsOfWalk NotJson = ⊥
IsOfWalk (Unsupported path) = ⊤
IsOfWalk (BadValue path) = ⊤
IsOfWalk (TooMany path n) = ⊤

abbrev pub HasWalkFault : {A : Type 0} → Result A ScenarioFault → Type 0
HasWalkFault (Ok x) = ⊤
HasWalkFault (Err e) = IsOfWalk e

-- the fault, if there is one, is of the walk
pub record Walks {A : Type 0} (r : Result A ScenarioFault) : Type 0 where
  pub fault : HasWalkFault r

-- so is each that the reader gives
pub record IsWalk {A : Type 0} (read : Reader A) : Type 0 where
  pub at : (path : List ℕ) (d : Data) → Walks (read path d)

pub gives : {A : Type 0} (x : A) → Walks {A = A} (Ok x)
gives x = record { fault = tt }

pub bad-walks : {A : Type 0} (path : List ℕ) → Walks {A = A} (bad path)
bad-walks path = record { fault = tt }

pub bind : {A B : Type 0} (r : Result A ScenarioFault) (next : A → Result B ScenarioFault) → Walks r → ((x : A) → Walks (next x)) → Walks (r >>= next)
bind (Ok x) next here rest = rest x
bind (Err e) next here rest = record { fault = here.fault }

pub behind : {A B : Type 0} (r : Result A ScenarioFault) (next : Result B ScenarioFault) → Walks r → Walks next → Walks (r >> next)
behind (Ok x) next here rest = rest
behind (Err e) next here rest = record { fault = here.fault }

pub choose : {A : Type 0} (b : Bool) (r s : Result A ScenarioFault) → Walks r → Walks s → Walks (if b then r else s)
choose true r s here there = here
choose false r s here there = there

pub or_bad-walks : {A : Type 0} (path : List ℕ) (o : Option A) → Walks (or_bad path o)
or_bad-walks path None = record { fault = tt }
or_bad-walks path (Some x) = record { fault = tt }

member_or-walks : {A : Type 0} (missing : Result A ScenarioFault) (read : Reader A) (path : List ℕ) (o : Option Data) → Walks missing → IsWalk read → Walks (member_or missing read path o)
member_or-walks missing read path None none some = none
member_or-walks missing read path (Some d) none some = some.at path d

pub required-walks : {A : Type 0} (name : List ℕ) (read : Reader A) → IsWalk read → IsWalk (required name read)
required-walks name read some = record { at = λ path d. member_or-walks (bad (below path name)) read (below path name) (get name d) (bad-walks (below path name)) some }

pub optional-walks : {A : Type 0} (name : List ℕ) (default : A) (read : Reader A) → IsWalk read → IsWalk (optional name default read)
optional-walks name default read some = record { at = λ path d. member_or-walks (Ok default) read (below path name) (get name d) (gives default) some }

none_unknown-walks : (path : List ℕ) (o : Option (List ℕ)) → Walks (none_unknown path o)
none_unknown-walks path None = record { fault = tt }
none_unknown-walks path (Some unknown) = record { fault = tt }

only_in-walks : (names : List (List ℕ)) (path : List ℕ) (o : Option Members) → Walks (only_in names path o)
only_in-walks names path None = record { fault = tt }
only_in-walks names path (Some ms) = none_unknown-walks path (first_unknown names ms)

pub only-walks : (names : List (List ℕ)) → IsWalk (only names)
only-walks names = record { at = λ path d. only_in-walks names path (as_object d) }

object_in-walks : (path : List ℕ) (o : Option Members) → Walks (object_in path o)
object_in-walks path None = record { fault = tt }
object_in-walks path (Some ms) = record { fault = tt }

pub an_object-walks : IsWalk an_object
an_object-walks = record { at = λ path d. object_in-walks path (as_object d) }

-- ---- lists

any_items-walks : IsWalk any_items
any_items-walks = record { at = λ path d. or_bad-walks path _ }

at_most-walks : (most : ℕ) (path : List ℕ) (ds : List Data) → Walks (at_most most path ds)
at_most-walks most path ds = choose (nat_le (length ds) most) _ _ (gives ds) (record { fault = tt })

items-walks : (most : ℕ) → IsWalk (items most)
items-walks most = record { at = λ path d. bind _ _ (any_items-walks.at path d) (λ ds. at_most-walks most path ds) }

each_behind-walks : {A : Type 0} (read : List Data → Reader A) → ((before : List Data) → IsWalk (read before)) → (path : List ℕ) (before ds : List Data)
    → Walks (each_behind read path before ds)
each_behind-walks read each path before [] = gives []
each_behind-walks read each path before (d ∷ ds) =
    bind _ _ ((each before).at (below path (decimal (length before))) d) (λ x.
    bind _ _ (each_behind-walks read each path (before ++ d ∷ []) ds) (λ xs. gives (x ∷ xs)))

pub list_behind-walks : {A : Type 0} (most : ℕ) (read : List Data → Reader A) → ((before : List Data) → IsWalk (read before)) → IsWalk (list_behind most read)
list_behind-walks most read each = record { at = λ path d. bind _ _ ((items-walks most).at path d) (λ ds. each_behind-walks read each path [] ds) }

pub list-walks : {A : Type 0} (most : ℕ) (read : Reader A) → IsWalk read → IsWalk (list most read)
list-walks most read each = record { at = λ path d. (list_behind-walks most (λ before. read) (λ before. each)).at path d }

pub any_list-walks : {A : Type 0} (read : Reader A) → IsWalk read → IsWalk (any_list read)
any_list-walks read each = record { at = λ path d. bind _ _ (any_items-walks.at path d) (λ ds. each_behind-walks (λ before. read) (λ before. each) path [] ds) }

-- ---- values

pub flag-walks : IsWalk flag
flag-walks = record { at = λ path d. or_bad-walks path _ }

pub text-walks : IsWalk text
text-walks = record { at = λ path d. or_bad-walks path _ }

pub text_that-walks : (test : List ℕ → Bool) → IsWalk (text_that test)
text_that-walks test = record { at = λ path d. bind _ _ (text-walks.at path d) (λ t. or_bad-walks path _) }

pub text_within-walks : (most : ℕ) → IsWalk (text_within most)
text_within-walks most = text_that-walks (λ t. nat_le (length t) most)

pub whole-walks : (least most : ℕ) → IsWalk (whole least most)
whole-walks least most = record { at = λ path d. or_bad-walks path _ }

pub some-walks : {A : Type 0} (read : Reader A) → IsWalk read → IsWalk (some read)
some-walks read here = record { at = λ path d. bind _ _ (here.at path d) (λ x. gives (Some x)) }

pub word-walks : {A : Type 0} (table : List ℕ → Option A) → IsWalk (word table)
word-walks table = record { at = λ path d. bind _ _ (text-walks.at path d) (λ t. or_bad-walks path _) }

pub host-walks : IsWalk host
host-walks = text_that-walks is_plain_host

pub name-walks : IsWalk name
name-walks = text_that-walks is_name

pub address-walks : IsWalk address
address-walks = record { at = λ path d. bind _ _ (text-walks.at path d) (λ t. or_bad-walks path _) }

pub site-walks : IsWalk site
site-walks = record { at = λ path d. bind _ _ (text-walks.at path d) (λ t. or_bad-walks path _) }

moment-walks : (path : List ℕ) (d : Data) → Walks (moment_or_none path d)
moment-walks path null = record { fault = tt }
moment-walks path (boolean b) = record { fault = tt }
moment-walks path (number n) = or_bad-walks path _
moment-walks path (string s) = record { fault = tt }
moment-walks path (array ds) = record { fault = tt }
moment-walks path (object ms) = record { fault = tt }

pub moment_or_none-walks : IsWalk moment_or_none
moment_or_none-walks = record { at = moment-walks }

field_of-walks : (path : List ℕ) (ds : List Data) → Walks (field_of path ds)
field_of-walks path [] = record { fault = tt }
field_of-walks path (a ∷ []) = record { fault = tt }
field_of-walks path (a ∷ b ∷ []) = bind _ _ (text-walks.at _ a) (λ name. bind _ _ (text-walks.at _ b) (λ value. gives _))
field_of-walks path (a ∷ b ∷ c ∷ ds) = record { fault = tt }

pub field-walks : IsWalk field
field-walks = record { at = λ path d. bind _ _ (any_items-walks.at path d) (λ parts. field_of-walks path parts) }

pub good_field-walks : IsWalk good_field
good_field-walks = record { at = λ path d. bind _ _ (field-walks.at path d) (λ f. or_bad-walks path _) }
