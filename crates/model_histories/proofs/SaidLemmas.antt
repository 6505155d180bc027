-- What a caller has said, as what is seen becomes longer.
use Rattle.std.proofs.Common.{◌≡◌, ◌≢◌, List, [], ◌∷◌, ◌++◌, Bool, true, false, cond, refl, sym, ap, subst, ◌∙◌, append_assoc, append-nil, map, IsTrue}
use Rattle.std.specs.Prelude.{◌==◌, All}
use Rattle.std.proofs.lemmas.Bool.{eq-eqb, ne_eqb, cond-true, cond-false, both_ways}
use Rattle.std.proofs.lemmas.List.Elements.{All-nil, All-head, All-tail, All-append, All-weaker}
use Rattle.net_base.specs.declared.numbers.CallerNo.{CallerNo}
use Rattle.net_base.specs.declared.numbers.Moment.{Moment}
use Rattle.model_histories.specs.Histories.{IsHistory}
use Rattle.model_histories.specs.Port.{PortView, Grows, LeavesNone, Leaves, NoneOf, said}
use Rattle.model_histories.specs.Reading.{Own, OwnReadingsGrow, own_from, own_of, calls_of, given_by}
use Rattle.model_values.specs.declared.config.Config.{Config}
use Rattle.model_values.specs.declared.entry.Act.{Act}
use Rattle.model_values.specs.declared.entry.Entry.{Entry}

-- ---- what is read off more entries

-- an entry as it is read behind these
abbrev pub read_behind : List Entry → Entry → Own
read_behind before x = record { entry = x; orders = given_by before x.act }

one_more : (b : Bool) (x : Own) (xs ys zs : List Own) → xs ≡ ys ++ zs → cond b (x ∷ xs) xs ≡ cond b (x ∷ ys) ys ++ zs
one_more true x xs ys zs e = ap (λ (l : List Own). x ∷ l) e
one_more false x xs ys zs e = e

-- more entries only add behind
pub own_from-append : (before : List Entry) (who : CallerNo) (h more : List Entry) → own_from before who (h ++ more) ≡ own_from before who h ++ own_from (before ++ h) who more
unfolding own_from
own_from-append before who [] more = ap (λ (l : List Entry). own_from l who more) (sym (append-nil before))
own_from-append before who (x ∷ xs) more =
    let next : List Entry = before ++ x ∷ [] in
    one_more (x.who.0 == who.0) (read_behind before x) (own_from next who (xs ++ more)) (own_from next who xs) (own_from (before ++ x ∷ xs) who more)
    (own_from-append next who xs more ∙ ap (λ (l : List Entry). own_from next who xs ++ own_from l who more) (append_assoc before (x ∷ []) xs))

pub own_readings_grow : OwnReadingsGrow
own_readings_grow h more who = own_from-append [] who h more

-- the first of entries of others isn't the caller's
pub not_own : (who : CallerNo) (x : Entry) (xs : List Entry) → NoneOf who (x ∷ xs) → (x.who.0 == who.0) ≡ false
not_own who x xs none = ne_eqb x.who.0 who.0 (λ same. All-head (λ (y : Entry). y.who ≢ who) x xs none (ap (λ n. record { 0 = n }) same))

-- entries of others add nothing
pub own_from_none : (before : List Entry) (who : CallerNo) (xs : List Entry) → NoneOf who xs → own_from before who xs ≡ []
unfolding own_from
own_from_none before who [] none = refl
own_from_none before who (x ∷ xs) none =
    let rest : List Own = own_from (before ++ x ∷ []) who xs in
    cond-false (x.who.0 == who.0) (read_behind before x ∷ rest) rest (not_own who x xs none)
    ∙ own_from_none (before ++ x ∷ []) who xs (All-tail (λ (y : Entry). y.who ≢ who) x xs none)

-- the caller's own entry adds one
own_from_one : (before : List Entry) (who : CallerNo) (x : Entry) (xs : List Entry) → x.who ≡ who → NoneOf who xs → own_from before who (x ∷ xs) ≡ read_behind before x ∷ []
unfolding own_from
own_from_one before who x xs same none =
    let rest : List Own = own_from (before ++ x ∷ []) who xs in
    cond-true (x.who.0 == who.0) (read_behind before x ∷ rest) rest (eq-eqb x.who.0 who.0 (ap (λ (w : CallerNo). w.0) same))
    ∙ ap (λ (l : List Own). read_behind before x ∷ l) (own_from_none (before ++ x ∷ []) who xs none)

-- entries of others leave what was said
pub own_same : (who : CallerNo) (h more : List Entry) → NoneOf who more → own_of (h ++ more) who ≡ own_of h who
own_same who h more none = own_from-append [] who h more ∙ ap (λ (l : List Own). own_of h who ++ l) (own_from_none h who more none) ∙ append-nil (own_of h who)

one_entry : (b : Bool) (x : Own) (xs : List Own) (ys : List Entry) → map (λ (o : Own). o.entry) xs ≡ ys → map (λ (o : Own). o.entry) (cond b (x ∷ xs) xs) ≡ cond b (x.entry ∷ ys) ys
one_entry true x xs ys e = ap (λ (l : List Entry). x.entry ∷ l) e
one_entry false x xs ys e = e

-- the entries that are read are the caller's calls
pub own_from_calls : (before : List Entry) (who : CallerNo) (xs : List Entry) → map (λ o. o.entry) (own_from before who xs) ≡ calls_of xs who
unfolding own_from
own_from_calls before who [] = refl
own_from_calls before who (x ∷ xs) = one_entry (x.who.0 == who.0) (read_behind before x) (own_from (before ++ x ∷ []) who xs) (calls_of xs who) (own_from_calls (before ++ x ∷ []) who xs)

-- ---- what the caller of a port has said

-- a call that leaves no entry
pub said_none : (v w : PortView) → LeavesNone v w → said w ≡ said v
said_none v w l =
    ap (λ (who : CallerNo). own_of w.seen who) l.grows.mine ∙ ap (λ (h : List Entry). own_of h v.mine) l.seen ∙ own_same v.mine v.seen l.others l.none_own

-- the entry that a call leaves, as it is read
abbrev pub left_by : (v : PortView) (moment : Moment) (act : Act) (w : PortView) → Leaves v moment act w → Own
left_by v moment act w l = read_behind (v.seen ++ l.before) (record { who = v.mine; moment = moment; act = act })

-- a call that leaves its entry
pub said_one : (v w : PortView) (moment : Moment) (act : Act) (l : Leaves v moment act w) → said w ≡ said v ++ left_by v moment act w l ∷ []
said_one v w moment act l =
    let x : Entry = record { who = v.mine; moment = moment; act = act } in
    ap (λ (who : CallerNo). own_of w.seen who) l.grows.mine
    ∙ ap (λ (h : List Entry). own_of h v.mine) l.seen
    ∙ own_from-append [] v.mine (v.seen ++ l.before) (x ∷ l.behind)
    ∙ ap (λ (own : List Own). own ++ own_from (v.seen ++ l.before) v.mine (x ∷ l.behind)) (own_same v.mine v.seen l.before l.none_before)
    ∙ ap (λ (own : List Own). said v ++ own) (own_from_one (v.seen ++ l.before) v.mine x l.behind refl l.none_behind)

-- ---- growth

pub grows_none : (v : PortView) → Grows v v
grows_none v = record {
  config = refl;
  mine = refl;
  adds = refl;
  lender = refl;
  more = [];
  seen = sym (append-nil v.seen);
  by = All-nil (λ (x : Entry). IsTrue (v.adds x.who));
  history = λ h. h;
}

pub grows_on : (u v w : PortView) → Grows u v → Grows v w → Grows u w
grows_on u v w a b = record {
  config = b.config ∙ a.config;
  mine = b.mine ∙ a.mine;
  adds = b.adds ∙ a.adds;
  lender = b.lender ∙ a.lender;
  more = a.more ++ b.more;
  seen = b.seen ∙ ap (λ (l : List Entry). l ++ b.more) a.seen ∙ append_assoc u.seen a.more b.more;
  by = All-append (λ (x : Entry). IsTrue (u.adds x.who)) a.more b.more a.by (subst (λ (adds : CallerNo → Bool). All (λ (x : Entry). IsTrue (adds x.who)) b.more) a.adds b.by);
  history = λ h. subst (λ (k : Config). IsHistory k w.seen) a.config (b.history (subst (λ (k : Config). IsHistory k v.seen) (sym a.config) (a.history h)));
}

-- what callers say whose entries a port doesn't bring stays
pub others_same : (v w : PortView) (who : CallerNo) → Grows v w → v.adds who ≡ false → own_of w.seen who ≡ own_of v.seen who
others_same v w who g not_added =
    let none : NoneOf who g.more =
    All-weaker (λ (x : Entry). IsTrue (v.adds x.who)) (λ (x : Entry). x.who ≢ who) (λ x added same. both_ways (v.adds who) not_added (subst (λ (k : CallerNo). IsTrue (v.adds k)) same added)) g.more g.by in
    ap (λ (h : List Entry). own_of h who) g.seen ∙ own_same who v.seen g.more none
