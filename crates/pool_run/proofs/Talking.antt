-- A conversation's state over plain views, and how each step of a round goes on from it.
use Rattle.std.proofs.Common.{◌≡◌, inl, inr, ℕ, ◌+◌, ◌-◌, ◌<◌, ◌≤◌, List, [], ◌∷◌, ◌++◌, length, take, drop, Result, Ok, Err, refl, sym, ap, ◌∙◌, subst, arith, append_assoc, append-nil, length-append, length-drop}
use Rattle.std.specs.Result.{IsErr}
use Rattle.std.proofs.lemmas.List.{take-append-le}
use Rattle.std.proofs.lemmas.Bool.{cases_lt}
use Rattle.std.proofs.lemmas.Grind.{common_steps}
use Rattle.plain_values.specs.declared.memory.NoMem.{NoMem}
use Rattle.net_base.specs.declared.response.Response.{Response}
use Rattle.edge_traits.specs.Counts.{Rose}
use Rattle.edge_traits.specs.Links.{LinkView, LinkDid}
use Rattle.edge_traits.proofs.Steps.{did_none, did_on, rose_later, rose_on}
use Rattle.pool_run.specs.FirstAnswer.{IsFirstAnswer, BeginsFirst, Stands}
use Rattle.pool_run.specs.Conversation.{RoseBy, Spoke, IsOpen, IsStuck, QuietReads, Talks}
use Rattle.pool_run.specs.Rounds.{Hears, Writes, TakesIn, Idles, Advances, Turns, Judges, Settles}
use Rattle.pool_run.specs.declared.first_answer.Standing.{Standing}
use Rattle.pool_run.specs.declared.first_answer.Standing.TheVariants as standing
use Rattle.pool_run.specs.declared.conversation.Heard.{Heard}
use Rattle.pool_run.specs.declared.conversation.Wrote.{Wrote}
use Rattle.pool_run.specs.declared.conversation.Wrote.TheVariants as wrote
use Rattle.pool_run.specs.declared.conversation.Turn.{Turn}
use Rattle.pool_run.specs.declared.conversation.Turn.TheVariants as turn
use Rattle.pool_run.specs.declared.conversation.Next.{Next}
use Rattle.pool_run.specs.declared.conversation.Talk.{Talk}
use Rattle.pool_run.specs.declared.conversation.Talk.TheVariants as talk
use Rattle.pool_run.specs.declared.conversation.Progress.{Progress}
use Rattle.pool_run.proofs.Writings.{drop_put}

pub rose_by_more : (k a b c : ℕ) → RoseBy k a b → Rose b c → RoseBy (k + 1) a c
rose_by_more k a b c r s = omega arith

pub rose_by_none : (k a b : ℕ) → k ≡ 0 → a ≤ b → RoseBy k a b
rose_by_none k a b z le = omega arith

rose_by_least : (k n a b : ℕ) → n ≤ k → RoseBy k a b → RoseBy n a b
rose_by_least k n a b le r = omega arith

rose_by_later : (k a b c : ℕ) → a ≤ b → RoseBy k b c → RoseBy k a c
rose_by_later k a b c le r = omega arith

quiet_later : (k : ℕ) (u v w : LinkView) → u.counts.read_quiets ≤ v.counts.read_quiets → QuietReads k v w → QuietReads k u w
quiet_later k u v w le r = rose_by_later k u.counts.read_quiets v.counts.read_quiets w.counts.read_quiets le r

pub stands_as : (a b : List ℕ) (s t : Standing) → a ≡ b → s ≡ t → Stands a s → Stands b t
stands_as a b s t e f h =
    let P : List ℕ → Type 0 = λ l. Stands l s in
    let Q : Standing → Type 0 = λ x. Stands b x in
    subst Q f (subst P e h)

did_heard : (u v w : LinkView) (put got more : List ℕ) → LinkDid u v put got → LinkDid v w [] more → LinkDid u w put (got ++ more)
did_heard u v w put got more d e = rw append-nil at (did_on u v w put got [] more d e)

did_same : (u v w : LinkView) (put got : List ℕ) → LinkDid u v put got → LinkDid v w [] [] → LinkDid u w put got
did_same u v w put got d e = rw append-nil at (did_heard u v w put got [] d e)

heard_on : (u v w : LinkView) (text put got more : List ℕ) → Spoke u v text put got → LinkDid v w [] more → Spoke u w text put (got ++ more)
heard_on u v w text put got more s d = record { did = did_heard u v w put got more s.did d; rest = s.rest; begins = s.begins }

same_on : (u v w : LinkView) (text put got : List ℕ) → Spoke u v text put got → LinkDid v w [] [] → Spoke u w text put got
same_on u v w text put got s d = record { did = did_same u v w put got s.did d; rest = s.rest; begins = s.begins }

spoke_later : (u v w : LinkView) (text put got : List ℕ) → LinkDid u v [] [] → Spoke v w text put got → Spoke u w text put got
spoke_later u v w text put got d s = record { did = did_on u v w [] [] put got d s.did; rest = s.rest; begins = s.begins }

-- nothing of the text is out
pub spoke_none : (v w : LinkView) (text got : List ℕ) → LinkDid v w [] got → Spoke v w text [] got
spoke_none v w text got d = record { did = d; rest = text; begins = refl }

-- what was said before and what was said after it
pub spoke_on : (u v w : LinkView) (text put got more came : List ℕ) (n : ℕ) → Spoke u v text put got → n ≡ length put
    → Spoke v w (drop n text) more came → Spoke u w text (put ++ more) (got ++ came)
spoke_on u v w text put got more came n s is t =
    let e : drop n text ≡ s.rest = rw (is, s.begins) (drop_put put s.rest) in
    record {
      did = did_on u v w put got more came s.did t.did;
      rest = t.rest;
      begins = s.begins ∙ ap (λ (l : List ℕ). put ++ l) (sym e ∙ t.begins) ∙ sym (append_assoc put more t.rest);
    }

no_length : (l : List ℕ) → length l ≡ 0 → l ≡ []
no_length [] e = refl
no_length (x ∷ xs) e = absurd (omega arith)

-- all of the text is out
all_out : (u v : LinkView) (text put got : List ℕ) → Spoke u v text put got → length put ≡ length text → put ≡ text
all_out u v text put got s e =
    let z : s.rest ≡ [] = no_length s.rest (omega (arith, length-append put s.rest, ap length s.begins)) in
    sym (append-nil put) ∙ ap (λ (l : List ℕ). put ++ l) (sym z) ∙ sym s.begins

whole_rest : (text : List ℕ) (n : ℕ) → take (length text - n) (drop n text) ≡ drop n text
whole_rest text n = rw (sym (length-drop n text)) (grind (arith, common_steps))

-- what writes of all that is left of the text took
pub wrote_rest : (v u : LinkView) (text : List ℕ) (n : ℕ) (r s : Result Wrote NoMem) → r ≡ s
    → Writes v (take (length text - n) (drop n text)) r u → Writes v (drop n text) s u
wrote_rest v u text n r s e h =
    let P : Result Wrote NoMem → Type 0 = λ x. Writes v (take (length text - n) (drop n text)) x u in
    let Q : List ℕ → Type 0 = λ x. Writes v x s u in
    subst Q (whole_rest text n) (subst P e h)

-- a round's writes, and what its read made of them
pub turned : (v u w : LinkView) (text : List ℕ) (old : Progress) (taken waiting : ℕ) (r : Result Turn NoMem) (new : Progress)
    → old.sent ≤ length text → Writes v (drop old.sent text) (Ok (wrote.Took taken)) u → waiting ≡ length text - (old.sent + taken)
    → TakesIn u waiting taken (record old { sent = old.sent + taken }) r w new → Turns v text old r w new
turned v u w text old taken waiting (Ok turn.Going) new le wr is t = record {
  put = wr.0;
  got = t.got;
  spoke = heard_on v u w (drop old.sent text) wr.0 [] t.got wr.1 t.did;
  sent = omega (arith, t.sent, wr.2);
  received = t.received;
  idle = elim t.idle as (λ s. Idles v w text old new) [
    | inl z ↦ inl z
    | inr q ↦ inr (
      q.0,
      omega (arith, t.sent, q.1),
      λ lt. rose_on v.counts.write_quiets u.counts.write_quiets w.counts.write_quiets (wr.3 q.1 (omega (arith, t.sent, q.1, lt, length-drop old.sent text))) t.did.keeps.counts.write_quiets,
      λ e. rose_later v.counts.read_quiets u.counts.read_quiets w.counts.read_quiets wr.1.did.keeps.counts.read_quiets (q.2 (omega (arith, t.sent, e, is))),
    )
  ];
}
turned v u w text old taken waiting (Ok turn.Fault) new le wr is t =
    (wr.0, same_on v u w (drop old.sent text) wr.0 [] wr.1 t.0, rose_later v.counts.faults u.counts.faults w.counts.faults wr.1.did.keeps.counts.faults t.1)
turned v u w text old taken waiting (Ok turn.End) new le wr is t =
    (wr.0, same_on v u w (drop old.sent text) wr.0 [] wr.1 t.0, rose_later v.counts.ends u.counts.ends w.counts.ends wr.1.did.keeps.counts.ends t.1)
turned v u w text old taken waiting (Err e) new le wr is t = (wr.0, t.0, heard_on v u w (drop old.sent text) wr.0 [] t.0 wr.1 t.1)

-- a conversation after some rounds
pub record Speaks (first now : LinkView) (text : List ℕ) (p : Progress) : Type 0 where
  pub put : List ℕ
  pub spoke : Spoke first now text put p.received
  pub sent : p.sent ≡ length put
  pub writes : p.sent < length text → RoseBy p.idle first.counts.write_quiets now.counts.write_quiets
  pub reads : p.sent ≡ length text → RoseBy p.idle first.counts.read_quiets now.counts.read_quiets

-- before the first of the rounds
pub speaks_first : (v : LinkView) (text : List ℕ) (p : Progress) → p.sent ≡ 0 → p.received ≡ [] → p.idle ≡ 0 → Speaks v v text p
speaks_first v text p z e i = record {
  put = [];
  spoke = rw e (spoke_none v v text [] (did_none v));
  sent = z;
  writes = λ lt. omega (arith, i);
  reads = λ all. omega (arith, i);
}

-- it sent no more than the text
pub speaks_within : (first now : LinkView) (text : List ℕ) (p : Progress) → Speaks first now text p → p.sent ≤ length text
speaks_within first now text p s = omega (arith, s.sent, length-append s.put s.spoke.rest, ap length s.spoke.begins)

idle_on : (i k a b c : ℕ) → (i ≡ k + 1) → RoseBy k a b → Rose b c → RoseBy i a c
idle_on i k a b c is r s = rw is (rose_by_more k a b c r s)

-- a round comes after
pub speaks_on : (first now after : LinkView) (text : List ℕ) (old new : Progress) → Speaks first now text old → Advances now after text old new → Speaks first after text new
speaks_on first now after text old new s a =
    let spoke = spoke_on first now after text s.put old.received a.put a.got old.sent s.spoke s.sent a.spoke in
    record {
      put = s.put ++ a.put;
      spoke = rw a.received spoke;
      sent = omega (arith, a.sent, s.sent, length-append s.put a.put);
      writes = λ lt. elim a.idle as (λ i. RoseBy new.idle first.counts.write_quiets after.counts.write_quiets) [
        | inl z ↦ rose_by_none new.idle first.counts.write_quiets after.counts.write_quiets z spoke.did.keeps.counts.write_quiets
        | inr q ↦ idle_on new.idle old.idle first.counts.write_quiets now.counts.write_quiets after.counts.write_quiets q.0 (s.writes (omega (arith, q.1, lt))) (q.2 lt)
      ];
      reads = λ all. elim a.idle as (λ i. RoseBy new.idle first.counts.read_quiets after.counts.read_quiets) [
        | inl z ↦ rose_by_none new.idle first.counts.read_quiets after.counts.read_quiets z spoke.did.keeps.counts.read_quiets
        | inr q ↦ idle_on new.idle old.idle first.counts.read_quiets now.counts.read_quiets after.counts.read_quiets q.0 (s.reads (omega (arith, q.1, all))) (q.3 all)
      ];
    }

-- nothing more was heard
silent_on : (u v w : LinkView) (text put got more : List ℕ) (n : ℕ) → Spoke u v text put got → n ≡ length put → Spoke v w (drop n text) more [] → Spoke u w text (put ++ more) got
silent_on u v w text put got more n s is t = rw append-nil at (spoke_on u v w text put got more [] n s is t)

-- a round that ended, as one of the link's counts shows
pub talks_ended : (count : LinkView → ℕ) (first now after : LinkView) (text : List ℕ) (old : Progress) → Speaks first now text old → IsOpen old.received → count first ≤ count now
    → (put : List ℕ) × Spoke now after (drop old.sent text) put [] × Rose (count now) (count after)
    → (put : List ℕ) × (got : List ℕ) × Spoke first after text put got × IsOpen got × Rose (count first) (count after)
talks_ended count first now after text old s open_ before t = (
  s.put ++ t.0,
  old.received,
  silent_on first now after text s.put old.received t.0 old.sent s.spoke s.sent t.1,
  open_,
  rose_later (count first) (count now) (count after) before t.2,
)

-- a round without memory
pub talks_none : (first now after : LinkView) (text : List ℕ) (old new : Progress) (e : NoMem) → Speaks first now text old → Turns now text old (Err e) after new
    → (put : List ℕ) × (got : List ℕ) × Spoke first after text put got
talks_none first now after text old new e s t =
    (s.put ++ t.0, old.received ++ t.1, spoke_on first now after text s.put old.received t.0 t.1 old.sent s.spoke s.sent t.2)

-- what came is no answer
pub talks_octets : (first now : LinkView) (text : List ℕ) (p : Progress) → Speaks first now text p → Stands p.received standing.Other → Talks first text (Ok talk.Octets) now
talks_octets first now text p s h = (s.put, p.received, s.spoke, inr h)

-- too many rounds were idle
pub talks_quiet : (first now : LinkView) (text : List ℕ) (p : Progress) → Speaks first now text p → 10000 ≤ p.idle → IsOpen p.received → (p.sent ≡ length text → Stands p.received standing.More)
    → Talks first text (Ok talk.Quiet) now
talks_quiet first now text p s many open_ h =
    elim (cases_lt p.sent (length text)) as (λ x. Talks first text (Ok talk.Quiet) now) [
      | inl lt ↦ (s.put, p.received, s.spoke, open_, inr (rose_by_least p.idle 10000 first.counts.write_quiets now.counts.write_quiets many (s.writes lt)))
      | inr ge ↦
          let all : p.sent ≡ length text = omega (arith, speaks_within first now text p s, ge) in (
            s.put,
            p.received,
            s.spoke,
            open_,
            inl (
              all_out first now text s.put p.received s.spoke (sym s.sent ∙ all),
              h all,
              rose_by_least p.idle 10000 first.counts.read_quiets now.counts.read_quiets many (s.reads all),
            ),
          )
    ]

-- octets behind an answer are no answer
pub answer_then_more : (got more : List ℕ) (response : Response) → IsFirstAnswer got response → 0 < length more → Stands (got ++ more) standing.Other
answer_then_more got more response a some =
    let read = a.begins.read in
    let within : a.unit ≤ length got = read.0.0.0 in
    let e : take a.unit (got ++ more) ≡ take a.unit got = take-append-le a.unit got more within in
    let begins : BeginsFirst (got ++ more) a.head a.unit a.n = record {
      read = (((omega (arith, length-append got more, within), rw e read.0.0.1), read.0.1), rw e read.1);
      form = a.begins.form;
    } in
    inr (inr (a.head, a.unit, a.n, begins, omega (arith, length-append got more, a.whole)))

-- the rounds behind an answer
pub talks_settled : (first now after : LinkView) (text : List ℕ) (p : Progress) (round : ℕ) (response : Response) (r : Result Talk NoMem)
    → Speaks first now text p → p.sent ≡ length text → IsFirstAnswer p.received response → 2 ≤ round → round < 18446744073709551611
    → Settles now round response r after → Talks first text r after
talks_settled first now after text p round response (Ok (talk.Answered n said)) s all a low high t =
    let e = all_out first now text s.put p.received s.spoke (sym s.sent ∙ all) in
    let P : List ℕ → Type 0 = λ put. LinkDid first after put p.received in
    let Q : Response → Type 0 = λ x. IsFirstAnswer p.received x in (
      p.received,
      subst P e (did_same first now after s.put p.received s.spoke.did t.0),
      subst Q (sym t.3) a,
      quiet_later 3 first now after s.spoke.did.keeps.counts.read_quiets t.1,
      omega (arith, t.2, low),
      omega (arith, t.2, high),
    )
talks_settled first now after text p round response (Ok talk.Fault) s all a low high t = (
  s.put,
  p.received,
  same_on first now after text s.put p.received s.spoke t.0,
  inr (inr (response, a)),
  rose_later first.counts.faults now.counts.faults after.counts.faults s.spoke.did.keeps.counts.faults t.1,
)
talks_settled first now after text p round response (Ok talk.End) s all a low high t = (
  s.put,
  p.received,
  same_on first now after text s.put p.received s.spoke t.0,
  inr (inr (response, a)),
  rose_later first.counts.ends now.counts.ends after.counts.ends s.spoke.did.keeps.counts.ends t.1,
)
talks_settled first now after text p round response (Ok talk.Octets) s all a low high t =
    (s.put, p.received ++ t.0, heard_on first now after text s.put p.received t.0 s.spoke t.1, inr (answer_then_more p.received t.0 response a t.2))
talks_settled first now after text p round response (Ok talk.Quiet) s all a low high t = absurd t
talks_settled first now after text p round response (Err e) s all a low high t =
    (s.put, p.received ++ t.0, heard_on first now after text s.put p.received t.0 s.spoke t.1)

-- a quiet read before the conversation
pub talks_later : (u v w : LinkView) (text : List ℕ) (r : Result Talk NoMem) → LinkDid u v [] [] → Talks v text r w → Talks u text r w
talks_later u v w text (Ok (talk.Answered n said)) d t =
    (t.0, did_on u v w [] [] text t.0 d t.1, t.2, quiet_later 3 u v w d.keeps.counts.read_quiets t.3, t.4, t.5)
talks_later u v w text (Ok talk.Fault) d t =
    (t.0, t.1, spoke_later u v w text t.0 t.1 d t.2, t.3, rose_later u.counts.faults v.counts.faults w.counts.faults d.keeps.counts.faults t.4)
talks_later u v w text (Ok talk.End) d t =
    (t.0, t.1, spoke_later u v w text t.0 t.1 d t.2, t.3, rose_later u.counts.ends v.counts.ends w.counts.ends d.keeps.counts.ends t.4)
talks_later u v w text (Ok talk.Octets) d t = (t.0, t.1, spoke_later u v w text t.0 t.1 d t.2, t.3)
talks_later u v w text (Ok talk.Quiet) d t = (
  t.0,
  t.1,
  spoke_later u v w text t.0 t.1 d t.2,
  t.3,
  elim t.4 as (λ s. IsStuck u w text t.0 t.1) [
    | inl q ↦ inl (q.0, q.1, quiet_later 10000 u v w d.keeps.counts.read_quiets q.2)
    | inr q ↦ inr (rose_by_later 10000 u.counts.write_quiets v.counts.write_quiets w.counts.write_quiets d.keeps.counts.write_quiets q)
  ],
)
talks_later u v w text (Err e) d t = (t.0, t.1, spoke_later u v w text t.0 t.1 d t.2)

pub turn_is : (v w : LinkView) (text : List ℕ) (old new : Progress) (r s : Result Turn NoMem) → r ≡ s → Turns v text old r w new → Turns v text old s w new
turn_is v w text old new r s e t = let P : Result Turn NoMem → Type 0 = λ x. Turns v text old x w new in subst P e t

pub next_is : (text : List ℕ) (p : Progress) (r s : Result Next NoMem) → r ≡ s → Judges text p r → Judges text p s
next_is text p r s e j = let P : Result Next NoMem → Type 0 = λ x. Judges text p x in subst P e j

-- a round that goes on comes after
pub speaks_going : (first now after : LinkView) (text : List ℕ) (old new : Progress) (r : Result Turn NoMem) → Speaks first now text old → Turns now text old r after new
    → r ≡ Ok turn.Going → Speaks first after text new
speaks_going first now after text old new r s t e = speaks_on first now after text old new s (turn_is now after text old new r (Ok turn.Going) e t)

-- memory was wanting
pub talks_err : (first after : LinkView) (text : List ℕ) (r : Result Talk NoMem) → IsErr r → (put : List ℕ) × (got : List ℕ) × Spoke first after text put got → Talks first text r after
talks_err first after text (Ok x) is t = cc
talks_err first after text (Err e) is t = t

pub heard_is : (v w : LinkView) (r s : Result Heard NoMem) → r ≡ s → Hears v r w → Hears v s w
heard_is v w r s e h = let P : Result Heard NoMem → Type 0 = λ x. Hears v x w in subst P e h
