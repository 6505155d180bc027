-- A dial, what was said over its link and its retirement, put together.
use Rattle.std.proofs.Common.{◌≡◌, ℕ, ◌≤◌, List, [], ◌∷◌, ◌++◌, length, sum_by, Option, None, Some, Result, Ok, Err, IsErr, inl, inr, sym, ap, subst, ◌∙◌, arith}
use Rattle.std.proofs.lemmas.List.Sums.{sum_by_push}
use Rattle.std.proofs.lemmas.List.{append-nil}
use Rattle.plain_values.specs.declared.memory.NoMem.{NoMem}
use Rattle.net_base.specs.declared.target.Target.{Target}
use Rattle.net_base.specs.declared.identity.Identity.{Identity}
use Rattle.edge_traits.specs.Counts.{Rose, Counts, count_sum}
use Rattle.edge_traits.specs.Told.{Grew}
use Rattle.edge_traits.specs.Links.{Place, LinkView, LinkDid}
use Rattle.edge_traits.specs.Dialers.{DialerView, DialedUp, Retires, TakenOut, IsAt, listed}
use Rattle.edge_traits.proofs.Steps.{one_line}
use Rattle.pool_run.specs.Conversation.{RoseBy, Spoke, IsStuck}
use Rattle.pool_run.specs.Serial as serial
use Rattle.pool_run.specs.Serial.{IsQuiet}
use Rattle.net_base.specs.declared.request.Request.{Request}
use Rattle.net_base.specs.declared.response.Response.{Response}
use Rattle.pool_run.specs.declared.serial.Said.{Said}
use Rattle.pool_run.specs.declared.serial.Said.TheVariants.{Told}
use Rattle.pool_run.specs.declared.conversation.Talk.TheVariants as talk
use Rattle.pool_run.specs.declared.report.Unbuilt.TheVariants as unbuilt
use Rattle.pool_run.specs.declared.report.Report.{Report}
use Rattle.pool_run.specs.Journal.{exchange_text}
use Rattle.pool_run.specs.Exchange.{Says, DialedStaged, UpStaged, UnbuiltStaged, AnsweredStaged, StopsStaged, RunsStaged}

-- a dial and its retirement leave the same places out
same_out : (before mid after : List Place) (place : Option Place) → IsAt 1 place → mid ≡ before ++ listed place → TakenOut mid place after
    → (f : Place → ℕ) → sum_by f after ≡ sum_by f before
same_out before mid after None at up out f = absurd at
same_out before mid after (Some p) at up out f =
    let a = out f in
    let b = ap (λ (xs : List Place). sum_by f xs) up in
    let c = sum_by_push f before p in
    omega (arith, a, b, c)

pub dialed : (v e w : DialerView) (l k : LinkView) (target : Target) (identity : Identity) (put got : List ℕ)
    → DialedUp v e 1 target l identity → LinkDid l k put got → Retires e w 1 k → DialedStaged v w target (Some identity) (serial.one_line put got)
dialed v e w l k target identity put got up did retired = record {
  staged = retired.staged ∙ up.staged;
  records = subst (λ (r : _). Grew v.records (record { conn = 1; target = target; identity = Some identity } ∷ []) r) (sym retired.records) up.records;
  log = one_line v e w l k 1 target identity put got up did retired;
  out = same_out v.out e.out w.out l.place up.fresh.place up.out (subst (λ (p : Option Place). TakenOut e.out p w.out) did.keeps.place retired.out);
}

pub came_up : (v e w : DialerView) (l k : LinkView) (target : Target) (identity : Identity) (text put got : List ℕ)
    → DialedUp v e 1 target l identity → Spoke l k text put got → Retires e w 1 k → UpStaged v w target text identity put got
came_up v e w l k target identity text put got up spoke retired = record {
  dialed = dialed v e w l k target identity put got up spoke.did retired;
  rest = spoke.rest;
  begins = spoke.begins;
}

pub rose_retired : (v e w : DialerView) (l k : LinkView) (target : Target) (identity : Identity)
    → DialedUp v e 1 target l identity → Retires e w 1 k → Rose l.counts.faults k.counts.faults → Rose v.counts.faults w.counts.faults
rose_retired v e w l k target identity up retired rose = let r = ap (λ (c : Counts). c.faults) retired.counts in omega (arith, up.counts.faults, r, rose)

pub ended_retired : (v e w : DialerView) (l k : LinkView) (target : Target) (identity : Identity)
    → DialedUp v e 1 target l identity → Retires e w 1 k → Rose l.counts.ends k.counts.ends → Rose v.counts.ends w.counts.ends
ended_retired v e w l k target identity up retired rose = let r = ap (λ (c : Counts). c.ends) retired.counts in omega (arith, up.counts.ends, r, rose)

quiet_added : (n a b c d e : ℕ) → a ≤ b → RoseBy n c d → e ≡ count_sum b d → RoseBy n a e
quiet_added n a b c d e le rose is = rw is (omega arith)

pub quiet_retired : (v e w : DialerView) (l k : LinkView) (target : Target) (identity : Identity) (text put got : List ℕ)
    → DialedUp v e 1 target l identity → Retires e w 1 k → IsStuck l k text put got → IsQuiet v w text put got
quiet_retired v e w l k target identity text put got up retired (inl h) =
    inl (h.0, h.1, quiet_added 10000 _ _ _ _ _ up.counts.read_quiets h.2 (ap (λ (c : Counts). c.read_quiets) retired.counts))
quiet_retired v e w l k target identity text put got up retired (inr h) =
    inr (quiet_added 10000 _ _ _ _ _ up.counts.write_quiets h (ap (λ (c : Counts). c.write_quiets) retired.counts))

fault_of : (v e w : DialerView) (l k : LinkView) (target : Target) (identity : Identity) (text : List ℕ)
    → DialedUp v e 1 target l identity → Retires e w 1 k → Says l identity text (Ok (Told talk.Fault)) k → UnbuiltStaged v w target text unbuilt.Fault
fault_of v e w l k target identity text up retired s =
    (identity, s.1.0, s.1.1, (came_up v e w l k target identity text s.1.0 s.1.1 up s.1.2 retired, s.0, s.1.3), rose_retired v e w l k target identity up retired s.1.4)

end_of : (v e w : DialerView) (l k : LinkView) (target : Target) (identity : Identity) (text : List ℕ)
    → DialedUp v e 1 target l identity → Retires e w 1 k → Says l identity text (Ok (Told talk.End)) k → UnbuiltStaged v w target text unbuilt.End
end_of v e w l k target identity text up retired s =
    (identity, s.1.0, s.1.1, (came_up v e w l k target identity text s.1.0 s.1.1 up s.1.2 retired, s.0, s.1.3), ended_retired v e w l k target identity up retired s.1.4)

quiet_of : (v e w : DialerView) (l k : LinkView) (target : Target) (identity : Identity) (text : List ℕ)
    → DialedUp v e 1 target l identity → Retires e w 1 k → Says l identity text (Ok (Told talk.Quiet)) k → UnbuiltStaged v w target text unbuilt.Quiet
quiet_of v e w l k target identity text up retired s =
    (identity, s.1.0, s.1.1, (came_up v e w l k target identity text s.1.0 s.1.1 up s.1.2 retired, s.0, s.1.3), quiet_retired v e w l k target identity text s.1.0 s.1.1 up retired s.1.4)

answer_of : (v e w : DialerView) (l k : LinkView) (request : Request) (target : Target) (identity : Identity) (text told : List ℕ) (round : ℕ) (response : Response)
    → DialedUp v e 1 target l identity → Retires e w 1 k → Says l identity text (Ok (Told (talk.Answered round response))) k
    → told ≡ exchange_text request identity (length text) round response → AnsweredStaged v w request target text told
answer_of v e w l k request target identity text told round response up retired s is = record {
  identity = identity;
  received = s.1.0;
  response = response;
  round = round;
  dialed = dialed v e w l k target identity text s.1.0 up s.1.1 retired;
  proto = s.0;
  answer = s.1.2;
  quiet = quiet_added 3 _ _ _ _ _ up.counts.read_quiets s.1.3 (ap (λ (c : Counts). c.read_quiets) retired.counts);
  later = s.1.4;
  journal = is;
}

-- the same along what a match saw
pub fault_told : (v e w : DialerView) (l k : LinkView) (target : Target) (identity : Identity) (text : List ℕ) (said : Said)
    → said ≡ Told talk.Fault → DialedUp v e 1 target l identity → Retires e w 1 k → Says l identity text (Ok said) k → UnbuiltStaged v w target text unbuilt.Fault
fault_told v e w l k target identity text said is up retired s =
    fault_of v e w l k target identity text up retired (subst (λ (x : Said). Says l identity text (Ok x) k) is s)

pub end_told : (v e w : DialerView) (l k : LinkView) (target : Target) (identity : Identity) (text : List ℕ) (said : Said)
    → said ≡ Told talk.End → DialedUp v e 1 target l identity → Retires e w 1 k → Says l identity text (Ok said) k → UnbuiltStaged v w target text unbuilt.End
end_told v e w l k target identity text said is up retired s =
    end_of v e w l k target identity text up retired (subst (λ (x : Said). Says l identity text (Ok x) k) is s)

pub quiet_told : (v e w : DialerView) (l k : LinkView) (target : Target) (identity : Identity) (text : List ℕ) (said : Said)
    → said ≡ Told talk.Quiet → DialedUp v e 1 target l identity → Retires e w 1 k → Says l identity text (Ok said) k → UnbuiltStaged v w target text unbuilt.Quiet
quiet_told v e w l k target identity text said is up retired s =
    quiet_of v e w l k target identity text up retired (subst (λ (x : Said). Says l identity text (Ok x) k) is s)

pub answer_told : (v e w : DialerView) (l k : LinkView) (request : Request) (target : Target) (identity : Identity) (text told : List ℕ) (round : ℕ) (response : Response) (said : Said)
    → said ≡ Told (talk.Answered round response) → DialedUp v e 1 target l identity → Retires e w 1 k → Says l identity text (Ok said) k
    → told ≡ exchange_text request identity (length text) round response → AnsweredStaged v w request target text told
answer_told v e w l k request target identity text told round response said is up retired s journal =
    answer_of v e w l k request target identity text told round response up retired (subst (λ (x : Said). Says l identity text (Ok x) k) is s) journal

-- without memory: while the text was said, or for the journal of an answer
pub lacks_said : (v e w : DialerView) (l k : LinkView) (target : Target) (identity : Identity) (text : List ℕ) (why : NoMem)
    → DialedUp v e 1 target l identity → Retires e w 1 k → Says l identity text (Err why) k → StopsStaged v target text w
lacks_said v e w l k target identity text why up retired s =
    inr (identity, s.0, s.1, came_up v e w l k target identity text s.0 s.1 up s.2 retired)

pub lacks_journal : (v e w : DialerView) (l k : LinkView) (target : Target) (identity : Identity) (text : List ℕ) (round : ℕ) (response : Response) (said : Said)
    → said ≡ Told (talk.Answered round response) → DialedUp v e 1 target l identity → Retires e w 1 k → Says l identity text (Ok said) k → StopsStaged v target text w
lacks_journal v e w l k target identity text round response said is up retired s =
    let told = subst (λ (x : Said). Says l identity text (Ok x) k) is s in
    let spoke : Spoke l k text text told.1.0 = record { did = told.1.1; rest = []; begins = sym (append-nil text) } in
    inr (identity, text, told.1.0, came_up v e w l k target identity text text told.1.0 up spoke retired)

pub stops_err : (v w : DialerView) (request : Request) (target : Target) (text : List ℕ) (result : Result Report NoMem)
    → IsErr result → StopsStaged v target text w → RunsStaged v request target text result w
stops_err v w request target text (Ok told) is s = cc
stops_err v w request target text (Err why) is s = s
