-- What each entry that a program holds is known to be: its numbers are of their types, and its octets are octets. What is said
-- of all entries needs it, since those of statements may hold any numbers.
use Rattle.std.specs.Prelude.{⊤, All}
use Rattle.hex.specs.Hex.{IsBytes}
use Rattle.journal_words.specs.Ranges.{Fits8, Fits16, Fits32, Fits64, FieldFits, AddressFits, AltFits, ProofFits, CauseFits, DeadlineFits}
use Rattle.net_base.specs.declared.request.Request.{Request}
use Rattle.net_base.specs.declared.response.Response.{Response}
use Rattle.model_values.specs.declared.entry.Act.{Act}
use Rattle.model_values.specs.declared.entry.Act.TheVariants as act
use Rattle.model_values.specs.declared.entry.Entry.{Entry}
use Rattle.model_values.specs.declared.order.OrderMark.{OrderMark}
use Rattle.model_values.specs.declared.order.OrderMark.TheVariants as mark
use Rattle.model_values.specs.declared.reply.PreconnectReply.{PreconnectReply}
use Rattle.model_values.specs.declared.reply.PreconnectReply.TheVariants as preconnected
use Rattle.model_values.specs.declared.reply.ResolvedReply.{ResolvedReply}
use Rattle.model_values.specs.declared.reply.ResolvedReply.TheVariants as resolved
use Rattle.model_values.specs.declared.reply.ShutReply.{ShutReply}
use Rattle.model_values.specs.declared.reply.ShutReply.TheVariants as shut
use Rattle.model_values.specs.declared.reply.SubmitReply.{SubmitReply}
use Rattle.model_values.specs.declared.reply.SubmitReply.TheVariants as submitted
use Rattle.model_values.specs.declared.report.Report.{Report}
use Rattle.model_values.specs.declared.report.Report.TheVariants as report
use Rattle.model_values.specs.declared.submission.Submission.{Submission}

-- ---- parts of acts

abbrev pub RequestFits : Request → Type 0
RequestFits r = Fits16 r.origin.port × All FieldFits r.fields × IsBytes r.body

abbrev pub SubmissionFits : Submission → Type 0
SubmissionFits s = Fits8 s.urgency × DeadlineFits s.deadline × RequestFits s.request

abbrev pub ResponseFits : Response → Type 0
ResponseFits r = Fits16 r.status × All FieldFits r.fields × IsBytes r.body × All FieldFits r.trailers

abbrev pub MarkFits : OrderMark → Type 0
MarkFits (mark.Start e s) = Fits64 e.0 × Fits32 s.0
MarkFits (mark.Reset s) = Fits32 s.0
MarkFits mark.Close = ⊤

-- ---- replies

abbrev pub SubmitReplyFits : SubmitReply → Type 0
SubmitReplyFits (submitted.Accepted e) = Fits64 e.0
SubmitReplyFits (submitted.SubmissionsFull n) = Fits64 n
SubmitReplyFits submitted.BadProbe = ⊤
SubmitReplyFits (submitted.Closed place) = Fits64 place

abbrev pub PreconnectReplyFits : PreconnectReply → Type 0
PreconnectReplyFits (preconnected.Opening k) = Fits32 k
PreconnectReplyFits (preconnected.NoRoom total group) = Fits32 total × Fits32 group
PreconnectReplyFits (preconnected.Closed place) = Fits64 place

abbrev pub ResolvedReplyFits : ResolvedReply → Type 0
ResolvedReplyFits resolved.Noted = ⊤
ResolvedReplyFits (resolved.TooMany n) = Fits64 n
ResolvedReplyFits (resolved.Closed place) = Fits64 place

abbrev pub ShutReplyFits : ShutReply → Type 0
ShutReplyFits shut.Noted = ⊤
ShutReplyFits (shut.Closed place) = Fits64 place

-- ---- acts and entries

abbrev pub ReportFits : Report → Type 0
ReportFits (report.Opened i) = AddressFits i.address
ReportFits (report.Limit n) = Fits32 n
ReportFits (report.Answered s response keep alt proof) = Fits32 s.0 × ResponseFits response × AltFits alt × ProofFits proof
ReportFits (report.Refused s) = Fits32 s.0
ReportFits (report.Reset s code) = Fits32 s.0 × Fits32 code
ReportFits (report.TooLarge s) = Fits32 s.0
ReportFits (report.StreamClosed s) = Fits32 s.0
ReportFits (report.Goaway last) = Fits32 last.0
ReportFits (report.AltSeen origin alt) = Fits16 origin.port × AltFits alt

abbrev pub ActFits : Act → Type 0
ActFits (act.Submit ask reply) = SubmissionFits ask × SubmitReplyFits reply
ActFits (act.Cancel e reply) = Fits64 e.0
ActFits (act.Reprioritise e urgency reply) = Fits64 e.0 × Fits8 urgency
ActFits (act.Preconnect key credentials origin count reply) = Fits16 origin.port × Fits32 count × PreconnectReplyFits reply
ActFits (act.Resolved key host addresses reply) = All AddressFits addresses × ResolvedReplyFits reply
ActFits act.Network = ⊤
ActFits act.Tick = ⊤
ActFits (act.Shutdown reply) = ShutReplyFits reply
ActFits (act.Dial c target) = Fits32 c.0 × Fits16 target.port
ActFits (act.Orders c sent marks) = Fits32 c.0 × Fits64 sent × All MarkFits marks
ActFits (act.Reported c sent r) = Fits32 c.0 × Fits64 sent × ReportFits r
ActFits (act.Closed c sent cause heard) = Fits32 c.0 × Fits64 sent × CauseFits cause × All (λ s. Fits32 s.0) heard
ActFits (act.Expire e) = Fits64 e.0
ActFits (act.Lapse e) = Fits64 e.0
ActFits (act.Assign e c s way) = Fits64 e.0 × Fits32 c.0 × Fits32 s.0
ActFits (act.Want e c target) = Fits64 e.0 × Fits32 c.0 × Fits16 target.port
ActFits (act.Evict c) = Fits32 c.0

abbrev pub EntryFits : Entry → Type 0
EntryFits x = Fits32 x.who.0 × Fits64 x.moment.0 × ActFits x.act
