-- A dialer that was staged, and then a run over it.
use Rattle.std.proofs.Common.{◌≡◌, ℕ, List, [], Option, None, Some, Result, Ok, Err, inl, inr, sym, ap, subst, ◌∙◌, sum_by}
use Rattle.std.proofs.lemmas.List.{append-nil}
use Rattle.plain_values.specs.declared.memory.NoMem.{NoMem}
use Rattle.net_base.specs.declared.target.Target.{Target}
use Rattle.net_base.specs.declared.identity.Identity.{Identity}
use Rattle.edge_traits.specs.Counts.{Rose, Counts}
use Rattle.edge_traits.specs.Told.{Grew, StaysIfTold}
use Rattle.edge_traits.specs.Dialers.{DialerView, Stages, DialLacked, LogLine}
use Rattle.edge_traits.specs.declared.dialer.NetKind.TheVariants.{Inner}
use Rattle.h1_frames.specs.RequestText.{request_text}
use Rattle.small_form.specs.declared.form.SmallForm.{SmallForm}
use Rattle.pool_run.specs.declared.report.Unbuilt.{Unbuilt}
use Rattle.pool_run.specs.declared.report.Unbuilt.TheVariants as unbuilt
use Rattle.pool_run.specs.declared.report.Report.{Report}
use Rattle.pool_run.specs.declared.report.Report.TheVariants as report
use Rattle.pool_run.specs.Conversation.{RoseBy}
use Rattle.pool_run.specs.Journal.{clear_direct}
use Rattle.pool_run.specs.Serial.{AddsIfTold, DialedOnce, CameUp, WasOpen, AnsweredOnce, IsUnbuilt, IsQuiet, StagedOnly, RunsForm}
use Rattle.pool_run.specs.Exchange.{DialedStaged, UpStaged, OpenStaged, AnsweredStaged, UnbuiltStaged, RunsStaged}

adds_from : {A : Type 0} (a b : Option (List A)) (more : List A) (c : Option (List A)) → StaysIfTold a b → Grew b more c → AddsIfTold a more c
adds_from a b more None stays grew = tt
adds_from a None more (Some after) stays grew = cc
adds_from a (Some items) more (Some after) (inl is) grew = (items, sym is, cc)
adds_from a (Some items) more (Some after) (inr is) grew = cc

-- nothing was added to what stays
nothing_adds : {A : Type 0} (a b c : Option (List A)) → StaysIfTold a b → c ≡ b → AddsIfTold a [] c
nothing_adds a b None stays is = tt
nothing_adds a b (Some items) (inl stays) is = (items, sym (is ∙ stays), sym (append-nil items))
nothing_adds a b (Some items) (inr stays) is = let none : Some items ≡ None = is ∙ stays in cc

staged_form : (u v w : DialerView) (form : SmallForm) → Stages u v Inner form.peers → DialLacked v w → StagedOnly u w form
staged_form u v w form stages d = record {
  staged = d.staged ∙ stages.staged;
  records = nothing_adds u.records v.records w.records stages.records d.records;
  log = nothing_adds u.log v.log w.log stages.log d.log;
  out = λ f. ap (λ (xs : List _). sum_by f xs) (d.out ∙ stages.out);
}

dialed_form : (u v w : DialerView) (form : SmallForm) (identity : Option Identity) (lines : List LogLine)
    → Stages u v Inner form.peers → DialedStaged v w (clear_direct form.request.origin) identity lines → DialedOnce u w form identity lines
dialed_form u v w form identity lines stages d = record {
  staged = d.staged ∙ stages.staged;
  records = adds_from u.records v.records _ w.records stages.records d.records;
  log = adds_from u.log v.log lines w.log stages.log d.log;
  out = λ f. d.out f ∙ ap (λ (xs : List _). sum_by f xs) stages.out;
}

up_form : (u v w : DialerView) (form : SmallForm) (text : List ℕ) (identity : Identity) (put got : List ℕ)
    → Stages u v Inner form.peers → text ≡ request_text form.request → UpStaged v w (clear_direct form.request.origin) text identity put got → CameUp u w form identity put got
up_form u v w form text identity put got stages is up = record {
  dialed = dialed_form u v w form (Some identity) _ stages up.dialed;
  rest = up.rest;
  begins = sym is ∙ up.begins;
}

open_form : (u v w : DialerView) (form : SmallForm) (text : List ℕ) (identity : Identity) (put got : List ℕ)
    → Stages u v Inner form.peers → text ≡ request_text form.request → OpenStaged v w (clear_direct form.request.origin) text identity put got → WasOpen u w form identity put got
open_form u v w form text identity put got stages is open_ = (up_form u v w form text identity put got stages is open_.0, open_.1, open_.2)

rose_form : (u v : Counts) (a b c : ℕ) → a ≡ b → Rose a c → Rose b c
rose_form u v a b c is rose = subst (λ (n : ℕ). Rose n c) is rose

rose_by_form : (n a b c : ℕ) → a ≡ b → RoseBy n a c → RoseBy n b c
rose_by_form n a b c is rose = subst (λ (m : ℕ). RoseBy n m c) is rose

quiet_form : (u v w : DialerView) (text request : List ℕ) (put got : List ℕ) → v.counts ≡ u.counts → text ≡ request → IsQuiet v w text put got → IsQuiet u w request put got
quiet_form u v w text request put got counts is (inl h) =
    inl (h.0 ∙ is, h.1, rose_by_form 10000 _ _ _ (ap (λ (c : Counts). c.read_quiets) counts) h.2)
quiet_form u v w text request put got counts is (inr h) = inr (rose_by_form 10000 _ _ _ (ap (λ (c : Counts). c.write_quiets) counts) h)

unbuilt_form : (u v w : DialerView) (form : SmallForm) (text : List ℕ) (word : Unbuilt)
    → Stages u v Inner form.peers → text ≡ request_text form.request
    → UnbuiltStaged v w (clear_direct form.request.origin) text word → IsUnbuilt u w form word
unbuilt_form u v w form text unbuilt.Dial stages is s =
    (dialed_form u v w form None [] stages s.0, rose_form v.counts u.counts _ _ _ (ap (λ (c : Counts). c.faults) stages.counts) s.1)
unbuilt_form u v w form text unbuilt.Identity stages is s = (s.0, up_form u v w form text s.0 [] [] stages is s.1, s.2)
unbuilt_form u v w form text unbuilt.Fault stages is s =
    (s.0, s.1, s.2, open_form u v w form text s.0 s.1 s.2 stages is s.3, rose_form v.counts u.counts _ _ _ (ap (λ (c : Counts). c.faults) stages.counts) s.4)
unbuilt_form u v w form text unbuilt.End stages is s =
    (s.0, s.1, s.2, open_form u v w form text s.0 s.1 s.2 stages is s.3, rose_form v.counts u.counts _ _ _ (ap (λ (c : Counts). c.ends) stages.counts) s.4)
unbuilt_form u v w form text unbuilt.Octets stages is s = (s.0, s.1, s.2, up_form u v w form text s.0 s.1 s.2 stages is s.3, s.4, s.5)
unbuilt_form u v w form text unbuilt.Quiet stages is s =
    (s.0, s.1, s.2, open_form u v w form text s.0 s.1 s.2 stages is s.3, quiet_form u v w text (request_text form.request) s.1 s.2 stages.counts is s.4)

answered_form : (u v w : DialerView) (form : SmallForm) (text told : List ℕ)
    → Stages u v Inner form.peers → text ≡ request_text form.request
    → AnsweredStaged v w form.request (clear_direct form.request.origin) text told → AnsweredOnce u w form told
answered_form u v w form text told stages is s =
    let P : List ℕ → Type 0 = λ t. AnsweredStaged v w form.request (clear_direct form.request.origin) t told in
    let r : AnsweredStaged v w form.request (clear_direct form.request.origin) (request_text form.request) told = subst P is s in
    record {
      identity = r.identity;
      received = r.received;
      response = r.response;
      round = r.round;
      dialed = dialed_form u v w form (Some r.identity) _ stages r.dialed;
      proto = r.proto;
      answer = r.answer;
      quiet = rose_by_form 3 _ _ _ (ap (λ (c : Counts). c.read_quiets) stages.counts) r.quiet;
      later = r.later;
      told = r.journal;
    }

pub runs_form : (u v w : DialerView) (form : SmallForm) (target : Target) (text : List ℕ) (result : Result Report NoMem)
    → Stages u v Inner form.peers → target ≡ clear_direct form.request.origin → text ≡ request_text form.request
    → RunsStaged v form.request target text result w → RunsForm u form result w
runs_form u v w form target text (Ok (report.Answered told)) stages at is s =
    answered_form u v w form text told stages is (subst (λ (t : Target). AnsweredStaged v w form.request t text told) at s)
runs_form u v w form target text (Ok (report.Checked told)) stages at is s = s
runs_form u v w form target text (Ok (report.Judged told)) stages at is s = s
runs_form u v w form target text (Ok (report.Illegal told)) stages at is s = s
runs_form u v w form target text (Ok (report.Refused told)) stages at is s = s
runs_form u v w form target text (Ok (report.Unbuilt word)) stages at is s =
    unbuilt_form u v w form text word stages is (subst (λ (t : Target). UnbuiltStaged v w t text word) at s)
runs_form u v w form target text (Err e) stages at is (inl lacked) = inr (inl (staged_form u v w form stages lacked))
runs_form u v w form target text (Err e) stages at is (inr s) =
    let up = subst (λ (t : Target). UpStaged v w t text s.0 s.1 s.2) at s.3 in
    inr (inr (s.0, s.1, s.2, up_form u v w form text s.0 s.1 s.2 stages is up))
