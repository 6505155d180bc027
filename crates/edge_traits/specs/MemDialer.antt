-- A dialer in memory, which tells its log and its records.
use Rattle.std.specs.Prelude.{◌≡◌, ◌⊎◌, ℕ, ◌+◌, ◌-◌, ◌≤◌, List, [], ◌∷◌, drop, Contains, None, Some}
use Rattle.net_base.specs.declared.identity.Identity.{Identity}
use Rattle.edge_traits.specs.Counts.{Counts, no_counts, counts_sum}
use Rattle.edge_traits.specs.Counted.{next_call, one_fault}
use Rattle.edge_traits.specs.Links.{LinkView}
use Rattle.edge_traits.specs.Script.{link_view, new_link, script_state, new_script}
use Rattle.edge_traits.specs.Dialers.{DialerView}
use Rattle.edge_traits.specs.BookLinks.{upper_half}
use Rattle.edge_traits.specs.Books.{books_view, books_within, books_none_out}
use Rattle.edge_traits.specs.declared.dialer.TheConstants.{MOST_OCTETS}
use Rattle.edge_traits.specs.declared.dialer.Dialed.{Dialed}
use Rattle.edge_traits.specs.declared.dialer.Dialed.TheVariants.{Up, Failed, NoMem}
use Rattle.edge_traits.specs.declared.script_link.ScriptLink.{ScriptLink}
use Rattle.edge_traits.specs.declared.script_part.ScriptPart.{ScriptPart}
use Rattle.edge_traits.specs.declared.mem_dialer.MemDialer.{MemDialer}

abbrev pub dialer_view : MemDialer → DialerView
dialer_view d = books_view d.books

pub dialer_within : (d : MemDialer) → (dialer_view d).left ≤ MOST_OCTETS
dialer_within d = books_within d.books

pub dialer_none_out : (d : MemDialer) → (dialer_view d).staged ≡ None → (dialer_view d).out ≡ []
dialer_none_out d = books_none_out d.books

-- the parts that are left, the numbers of the dials that fail, how many dials there were, the counts, and how many
-- octets are left for links to give
pub record DialerState : Type 0 where
  pub parts : List ScriptPart
  pub dial_fails : List ℕ
  pub dials : ℕ
  pub counts : Counts
  pub left : ℕ

abbrev pub dialer_state : MemDialer → DialerState
dialer_state d = record {
  parts = drop d.next d.links;
  dial_fails = d.dial_fails.items;
  dials = d.dials;
  counts = (dialer_view d).counts;
  left = (dialer_view d).left;
}

-- a dialer of which no part was played
abbrev pub new_parts : List ScriptPart → List ℕ → DialerState
new_parts parts dial_fails = record { parts = parts; dial_fails = dial_fails; dials = 0; counts = no_counts; left = MOST_OCTETS }

-- the part is played: its link gets the half of what is left
pub record PlaysPart (part : ScriptPart) (rest : List ScriptPart) (before after : DialerState) (conn : ℕ) (link : ScriptLink) (identity : Identity) : Type 0 where
  pub unlisted : Contains before.dial_fails (next_call before.dials) → ⊥
  pub shown : identity ≡ part.identity
  pub view : link_view link ≡ new_link (Some (record { 0 = conn })) (upper_half before.left)
  pub script : script_state link ≡ new_script part.steps part.write_fails
  pub becomes : after ≡ record before { parts = rest; dials = next_call before.dials; left = before.left - upper_half before.left }

-- the next part is played
abbrev pub PlaysNext : List ScriptPart → DialerState → DialerState → ℕ → ScriptLink → Identity → Type 0
PlaysNext [] before after conn link identity = ⊥
PlaysNext (part ∷ rest) before after conn link identity = PlaysPart part rest before after conn link identity

-- a dial that fails: its number is listed, or no part is left
pub record DialFails (before after : DialerState) : Type 0 where
  pub cause : Contains before.dial_fails (next_call before.dials) ⊎ (before.parts ≡ [])
  pub becomes : after ≡ record before { dials = next_call before.dials; counts = one_fault before.counts }

-- what a dial for the connection answers
abbrev pub DialPlays : DialerState → ℕ → Dialed ScriptLink → DialerState → Type 0
DialPlays before conn (Up link identity) after = PlaysNext before.parts before after conn link identity
DialPlays before conn Failed after = DialFails before after
DialPlays before conn NoMem after = after ≡ before

-- a link is retired: what it didn't give comes back
pub record RetiresPart (before after : DialerState) (link : LinkView) : Type 0 where
  pub left : after.left + link.gave ≡ before.left + link.allowance
  pub becomes : after ≡ record before { counts = counts_sum before.counts link.counts; left = after.left }
