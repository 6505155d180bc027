-- Which entries have a line that is read back as them: those whose values have words that are (`Writable` of `journal_words`), and
-- whose orders are some.
use Rattle.std.specs.Prelude.{◌≡◌, ⊤, ◌&&◌, nat_lt, Bool, true, length, None, IsTrue}
use Rattle.net_base.specs.Requests.{is_token}
use Rattle.net_base.specs.declared.request.Request.{Request}
use Rattle.net_base.specs.declared.response.Response.{Response}
use Rattle.journal_words.specs.Writable.{is_word, are_named, are_names, is_writable_alt}
use Rattle.partition_keys.specs.Sites.{IsSite}
use Rattle.partition_keys.specs.declared.key.PartitionKey.{PartitionKey}
use Rattle.model_values.specs.declared.entry.Act.{Act}
use Rattle.model_values.specs.declared.entry.Act.TheVariants as act
use Rattle.model_values.specs.declared.entry.Entry.{Entry}
use Rattle.model_values.specs.declared.report.Report.{Report}
use Rattle.model_values.specs.declared.report.Report.TheVariants as report

-- RFC 9110, section 9.1: a method is a token
abbrev pub is_writable_request : Request → Bool
is_writable_request r = is_token r.method && is_word r.origin.host && is_word r.path && are_named r.fields

abbrev pub is_writable_response : Response → Bool
is_writable_response r = are_named r.fields && are_named r.trailers

abbrev pub is_writable_report : Report → Bool
is_writable_report (report.Opened i) = are_names i.names
is_writable_report (report.Limit n) = true
is_writable_report (report.Answered s response keep alt proof) = is_writable_response response && is_writable_alt alt
is_writable_report (report.Refused s) = true
is_writable_report (report.Reset s code) = true
is_writable_report (report.TooLarge s) = true
is_writable_report (report.StreamClosed s) = true
is_writable_report (report.Goaway last) = true
is_writable_report (report.AltSeen origin alt) = is_word origin.host && is_writable_alt alt

-- all of an act but its partition key; orders have one at least
abbrev pub is_writable_act : Act → Bool
is_writable_act (act.Submit ask reply) = is_writable_request ask.request
is_writable_act (act.Cancel e reply) = true
is_writable_act (act.Reprioritise e urgency reply) = true
is_writable_act (act.Preconnect key credentials origin count reply) = is_word origin.host
is_writable_act (act.Resolved key host addresses reply) = is_word host
is_writable_act act.Network = true
is_writable_act act.Tick = true
is_writable_act (act.Shutdown reply) = true
is_writable_act (act.Dial c target) = is_word target.host
is_writable_act (act.Orders c sent marks) = nat_lt 0 (length marks)
is_writable_act (act.Reported c sent r) = is_writable_report r
is_writable_act (act.Closed c sent cause heard) = true
is_writable_act (act.Expire e) = true
is_writable_act (act.Lapse e) = true
is_writable_act (act.Assign e c s way) = true
is_writable_act (act.Want e c target) = is_word target.host
is_writable_act (act.Evict c) = true

-- a partition key whose site has a text (HTML Standard, sites), and that has no second part
abbrev pub IsWritableKey : PartitionKey → Type 0
IsWritableKey k = IsSite k.site × (k.second ≡ None)

-- the partition key of an act that has one
abbrev pub HasWritableKey : Act → Type 0
HasWritableKey (act.Submit ask reply) = IsWritableKey ask.key
HasWritableKey (act.Cancel e reply) = ⊤
HasWritableKey (act.Reprioritise e urgency reply) = ⊤
HasWritableKey (act.Preconnect key credentials origin count reply) = IsWritableKey key
HasWritableKey (act.Resolved key host addresses reply) = IsWritableKey key
HasWritableKey act.Network = ⊤
HasWritableKey act.Tick = ⊤
HasWritableKey (act.Shutdown reply) = ⊤
HasWritableKey (act.Dial c target) = ⊤
HasWritableKey (act.Orders c sent marks) = ⊤
HasWritableKey (act.Reported c sent r) = ⊤
HasWritableKey (act.Closed c sent cause heard) = ⊤
HasWritableKey (act.Expire e) = ⊤
HasWritableKey (act.Lapse e) = ⊤
HasWritableKey (act.Assign e c s way) = ⊤
HasWritableKey (act.Want e c target) = ⊤
HasWritableKey (act.Evict c) = ⊤

-- the entry has a line that is read back as it
abbrev pub IsWritable : Entry → Type 0
IsWritable x = IsTrue (is_writable_act x.act) × HasWritableKey x.act
