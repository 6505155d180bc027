-- What calls of a link did, put together, and what a dialer's log says of them.
use Rattle.std.proofs.Common.{◌≡◌, ℕ, ◌+◌, ◌≤◌, List, [], ◌∷◌, ◌++◌, length, take, Option, None, Some, slice_get, refl, sym, ap, ◌∙◌, arith, append_assoc, append-nil, length-append, length-take}
use Rattle.net_base.specs.declared.target.Target.{Target}
use Rattle.net_base.specs.declared.identity.Identity.{Identity}
use Rattle.edge_traits.specs.Counts.{Rose, Counts, NoneFell, count_sum}
use Rattle.edge_traits.specs.Told.{Grew}
use Rattle.edge_traits.specs.Links.{Place, LinkView, LinkKeeps, LinkSame, LinkGave, LinkTook, LinkDid}
use Rattle.edge_traits.specs.Dialers.{LogLine, DialerView, DialedUp, Retires, IsAt, IsOut, listed}

pub rose_later : (a b c : ℕ) → a ≤ b → Rose b c → Rose a c
rose_later a b c le rose = omega arith

pub rose_on : (a b c : ℕ) → Rose a b → b ≤ c → Rose a c
rose_on a b c rose le = omega arith

-- a rise of a link's count is one of its dialer's, once the link's is added
pub rose_added : (a b c d : ℕ) → a ≤ b → Rose c d → Rose a (count_sum b d)
rose_added a b c d le rose = omega arith

-- the same of a count that a retired link's was added to
pub rose_retired : (a b c d e : ℕ) → a ≤ b → Rose c d → e ≡ count_sum b d → Rose a e
rose_retired a b c d e le rose is = rw is (rose_added a b c d le rose)

pub fell_none : (v : Counts) → NoneFell v v
fell_none v = record { faults = omega arith; read_quiets = omega arith; write_quiets = omega arith; ends = omega arith }

pub fell_on : (u v w : Counts) → NoneFell u v → NoneFell v w → NoneFell u w
fell_on u v w a b = record { faults = omega arith; read_quiets = omega arith; write_quiets = omega arith; ends = omega arith }

pub grew_none : {A : Type 0} (a : Option (List A)) → Grew a [] a
grew_none None = refl
grew_none (Some xs) = ap Some (sym (append-nil xs))

pub grew_same : {A : Type 0} (a b : Option (List A)) (xs : List A) (c : Option (List A)) → Grew a xs b → c ≡ b → Grew a xs c
grew_same None b xs c g e = e ∙ g
grew_same (Some ys) b xs c g e = e ∙ g

pub grew_trans : {A : Type 0} (a b c : Option (List A)) (xs ys : List A) → Grew a xs b → Grew b ys c → Grew a (xs ++ ys) c
grew_trans None None c xs ys g h = h
grew_trans None (Some zs) c xs ys g h = cc
grew_trans (Some zs) None c xs ys g h = cc
grew_trans (Some zs) (Some bs) c xs ys g h = let e : bs ≡ zs ++ xs = cc in h ∙ ap Some (rw (e, append_assoc) refl)

-- what grew from nothing is what was added
pub told_from_none : {A : Type 0} (a b : Option (List A)) (xs : List A) → a ≡ Some [] → Grew a xs b → b ≡ Some xs
told_from_none None b xs e g = cc
told_from_none {A} (Some ys) b xs e g = let f : ys ≡ [] = cc in g ∙ ap (λ (l : List A). Some (l ++ xs)) f

pub keeps_none : (v : LinkView) → LinkKeeps v v
keeps_none v = record { place = refl; allowance = refl; counts = fell_none v.counts }

pub keeps_on : (u v w : LinkView) → LinkKeeps u v → LinkKeeps v w → LinkKeeps u w
keeps_on u v w a b = record {
  place = b.place ∙ a.place;
  allowance = b.allowance ∙ a.allowance;
  counts = fell_on u.counts v.counts w.counts a.counts b.counts;
}

-- no call does nothing
pub did_none : (v : LinkView) → LinkDid v v [] []
did_none v = record { keeps = keeps_none v; took = omega arith; gave = omega arith; written = grew_none v.written; received = grew_none v.received }

pub did_on : (u v w : LinkView) (a b x y : List ℕ) → LinkDid u v a b → LinkDid v w x y → LinkDid u w (a ++ x) (b ++ y)
did_on u v w a b x y d e = record {
  keeps = keeps_on u v w d.keeps e.keeps;
  took = omega (arith, d.took, e.took, length-append a x);
  gave = omega (arith, d.gave, e.gave, length-append b y);
  written = grew_trans u.written v.written w.written a x d.written e.written;
  received = grew_trans u.received v.received w.received b y d.received e.received;
}

-- a write that took n octets comes after
pub took_more : (u v w : LinkView) (put got piece : List ℕ) (n : ℕ) → LinkDid u v put got → LinkKeeps v w → LinkTook v w piece n → LinkDid u w (put ++ take n piece) got
took_more u v w put got piece n d k t = record {
  keeps = keeps_on u v w d.keeps k;
  took = omega (arith, d.took, t.took, t.fits, length-append put (take n piece), length-take n piece);
  gave = t.gave ∙ d.gave;
  written = grew_trans u.written v.written w.written put (take n piece) d.written t.written;
  received = grew_same u.received v.received got w.received d.received t.received;
}

-- a read that gave n octets comes after
pub gave_more : (u v w : LinkView) (put got buffer : List ℕ) (size n : ℕ) → LinkDid u v put got → LinkKeeps v w → size ≡ length buffer → LinkGave v w size buffer n → LinkDid u w put (got ++ take n buffer)
gave_more u v w put got buffer size n d k e t = record {
  keeps = keeps_on u v w d.keeps k;
  took = t.took ∙ d.took;
  gave = omega (arith, d.gave, t.gave, t.fits, length-append got (take n buffer), length-take n buffer);
  written = grew_same u.written v.written put w.written d.written t.written;
  received = grew_trans u.received v.received w.received got (take n buffer) d.received t.received;
}

-- a call by which no octet went comes after
pub same_more : (u v w : LinkView) (put got : List ℕ) → LinkDid u v put got → LinkKeeps v w → LinkSame v w → LinkDid u w put got
same_more u v w put got d k t = record {
  keeps = keeps_on u v w d.keeps k;
  took = t.took ∙ d.took;
  gave = t.gave ∙ d.gave;
  written = grew_same u.written v.written put w.written d.written t.written;
  received = grew_same u.received v.received got w.received d.received t.received;
}

-- a link was dialed, did this and was retired: the log has the one new line, where it is told
pub one_line : (d e f : DialerView) (l k : LinkView) (conn : ℕ) (target : Target) (identity : Identity) (put got : List ℕ)
    → DialedUp d e conn target l identity → LinkDid l k put got → Retires e f conn k
    → Grew d.log (record { conn = conn; written = put; received = got } ∷ []) f.log
one_line d e f l k conn target identity put got up did retired = logged d.log refl
  where
    logged : (log : Option (List LogLine)) → d.log ≡ log → Grew log (record { conn = conn; written = put; received = got } ∷ []) f.log
    logged None is = retired.untold (up.log ∙ is)
    logged (Some lines) is =
        retired.log lines put got (up.log ∙ is)
        (told_from_none l.written k.written put (up.fresh.written lines is) did.written)
        (told_from_none l.received k.received got (up.fresh.received lines is) did.received)

pub get_last : {A : Type 0} (xs : List A) (x : A) → slice_get (xs ++ x ∷ []) (length xs) ≡ Some x
get_last [] x = refl
get_last (y ∷ xs) x = get_last xs x

is_last : (conn : ℕ) (xs : List Place) (place : Option Place) → IsAt conn place → IsOut conn place (xs ++ listed place)
is_last conn xs None is = absurd is
is_last conn xs (Some place) is = (is, (length xs, get_last xs place))

-- a link that was dialed may be retired, whatever was done to it
pub kept_out :
    (d e : DialerView) (l k : LinkView) (conn : ℕ) (target : Target) (identity : Identity) →
    DialedUp d e conn target l identity →
    LinkKeeps l k →
    IsOut conn k.place e.out
kept_out d e l k conn target identity up keeps = rw (keeps.place, up.out) (is_last conn d.out l.place up.fresh.place)

pub may_retire :
    (d e : DialerView) (l k : LinkView) (conn : ℕ) (target : Target) (identity : Identity) (put got : List ℕ) →
    DialedUp d e conn target l identity →
    LinkDid l k put got →
    IsOut conn k.place e.out
may_retire d e l k conn target identity put got up did = kept_out d e l k conn target identity up did.keeps
