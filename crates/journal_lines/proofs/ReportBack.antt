-- Reports are read back as what was written.
use Rattle.std.proofs.Common.{◌≡◌, ◌∙◌, refl, ap, ℕ, List, [], ◌∷◌, ◌++◌, codes, decimal, Bool, true, false, IsTrue, Ok, arith}
use Rattle.std.proofs.lemmas.Bool.{and_parts}
use Rattle.hex.specs.Hex.{encode_lower}
use Rattle.net_base.specs.Results.{◌>>=◌}
use Rattle.net_base.specs.declared.identity.Identity.{Identity}
use Rattle.net_base.specs.declared.numbers.StreamNo.{StreamNo}
use Rattle.net_base.specs.declared.origin.Origin.{Origin}
use Rattle.net_base.specs.declared.response.Response.{Response}
use Rattle.partition_keys.specs.declared.alternative.AltUpdate.{AltUpdate}
use Rattle.partition_keys.specs.declared.alternative.AltUpdate.TheVariants as alt
use Rattle.partition_keys.specs.declared.alternative.Proof.{Proof}
use Rattle.partition_keys.specs.declared.alternative.Proof.TheVariants.{NotAsked, NotValid, Until}
use Rattle.model_values.specs.declared.report.Report.{Report}
use Rattle.model_values.specs.declared.report.Report.TheVariants as report
use Rattle.journal_words.specs.Ranges.{Fits16, Fits32, AddressFits, AltFits, ProofFits}
use Rattle.journal_words.specs.Readers.{either_word, security, proto, address, list, name, field, number, octets, stream, origin, alt_of, proof_of}
use Rattle.journal_words.specs.Words.{security_text, proto_text, list_text, fields_text, octets_text, origin_text, alt_words, proof_words}
use Rattle.journal_words.specs.Writable.{are_named, are_names, is_word, is_writable_alt}
use Rattle.journal_lines.specs.Lines.{keep_text, identity_words, report_name, report_words}
use Rattle.journal_lines.specs.LineReaders.{small, opened, limit, response, alt_words_in, behind_alt, answered, reset, alt_seen, told_of, stream_report, report_at}
use Rattle.journal_lines.specs.Ranges.{ResponseFits, ReportFits}
use Rattle.journal_lines.specs.Writable.{is_writable_response, is_writable_report}
use Rattle.journal_words.proofs.Back.{number_back, stream_back, octets_back, address_back, security_back, proto_back, fields_back, names_back, origin_back, alt_back, proof_back}
use Rattle.journal_words.proofs.Steps.{bind}
use Rattle.journal_lines.proofs.ReplyBack.{small_back}

pub keep_back : (b : Bool) → either_word (codes "keep") true (codes "last") false (keep_text b) ≡ Ok b
keep_back true = refl
keep_back false = refl

-- ---- what a connection has shown

opened_steps : (a b c d : List ℕ) (i : Identity) → security a ≡ Ok i.secure → proto b ≡ Ok i.proto → address c ≡ Ok i.address
    → list name d ≡ Ok i.names → opened (a ∷ b ∷ c ∷ d ∷ []) ≡ Ok (report.Opened i)
opened_steps a b c d i secure speaks at named =
    bind (security a) i.secure
    (λ s. proto b >>= λ p. address c >>= λ t. list name d >>= λ ns. Ok (report.Opened (record { names = ns; secure = s; proto = p; address = t }))) secure
    ∙ bind (proto b) i.proto
    (λ p. address c >>= λ t. list name d >>= λ ns. Ok (report.Opened (record { names = ns; secure = i.secure; proto = p; address = t }))) speaks
    ∙ bind (address c) i.address
    (λ t. list name d >>= λ ns. Ok (report.Opened (record { names = ns; secure = i.secure; proto = i.proto; address = t }))) at
    ∙ bind (list name d) i.names
    (λ ns. Ok (report.Opened (record { names = ns; secure = i.secure; proto = i.proto; address = i.address }))) named

pub opened_back : (i : Identity) → AddressFits i.address → IsTrue (are_names i.names) → opened (identity_words i) ≡ Ok (report.Opened i)
opened_back i fits named =
    opened_steps (security_text i.secure) (proto_text i.proto) (encode_lower i.address) (list_text i.names) i
    (security_back i.secure) (proto_back i.proto) (address_back i.address fits) (names_back i.names named)

-- ---- responses

response_steps : (a b c d : List ℕ) (r : Response) → number 65535 a ≡ Ok r.status → list field b ≡ Ok r.fields → octets c ≡ Ok r.body
    → list field d ≡ Ok r.trailers → response a b c d ≡ Ok r
response_steps a b c d r status fields body trailers =
    bind (number 65535 a) r.status
    (λ s. list field b >>= λ fs. octets c >>= λ o. list field d >>= λ ts. Ok (record { status = s; fields = fs; body = o; trailers = ts })) status
    ∙ bind (list field b) r.fields
    (λ fs. octets c >>= λ o. list field d >>= λ ts. Ok (record { status = r.status; fields = fs; body = o; trailers = ts })) fields
    ∙ bind (octets c) r.body
    (λ o. list field d >>= λ ts. Ok (record { status = r.status; fields = r.fields; body = o; trailers = ts })) body
    ∙ bind (list field d) r.trailers (λ ts. Ok (record { status = r.status; fields = r.fields; body = r.body; trailers = ts })) trailers

pub response_back : (r : Response) → ResponseFits r → IsTrue (is_writable_response r)
    → response (decimal r.status) (fields_text r.fields) (octets_text r.body) (fields_text r.trailers) ≡ Ok r
response_back r fits writes =
    let named = and_parts (are_named r.fields) (are_named r.trailers) writes in
    response_steps (decimal r.status) (fields_text r.fields) (octets_text r.body) (fields_text r.trailers) r
    (number_back 65535 r.status fits.0 (omega arith)) (fields_back r.fields fits.1 named.0) (octets_back r.body fits.2)
    (fields_back r.trailers fits.3 named.1)

-- ---- an update of alternatives and a proof behind it

pub alt_in_back : (a : AltUpdate) (p : Proof) → alt_words_in (alt_words a ++ proof_words p) ≡ alt_words a
alt_in_back alt.None NotAsked = refl
alt_in_back alt.None (Until m) = refl
alt_in_back alt.None (NotValid why) = refl
alt_in_back alt.Clear NotAsked = refl
alt_in_back alt.Clear (Until m) = refl
alt_in_back alt.Clear (NotValid why) = refl
alt_in_back (alt.Set alternatives) p = refl

pub behind_alt_back : (a : AltUpdate) (p : Proof) → behind_alt (alt_words a ++ proof_words p) ≡ proof_words p
behind_alt_back alt.None NotAsked = refl
behind_alt_back alt.None (Until m) = refl
behind_alt_back alt.None (NotValid why) = refl
behind_alt_back alt.Clear NotAsked = refl
behind_alt_back alt.Clear (Until m) = refl
behind_alt_back alt.Clear (NotValid why) = refl
behind_alt_back (alt.Set alternatives) p = refl

answered_steps : (a b c d e f : List ℕ) (others : List (List ℕ)) (s : StreamNo) (keep : Bool) (r : Response) (u : AltUpdate) (p : Proof)
    → stream a ≡ Ok s → either_word (codes "keep") true (codes "last") false b ≡ Ok keep → response c d e f ≡ Ok r
    → alt_of (alt_words_in others) ≡ Ok u → proof_of (behind_alt others) ≡ Ok p
    → answered (a ∷ b ∷ c ∷ d ∷ e ∷ f ∷ others) ≡ Ok (report.Answered s r keep u p)
answered_steps a b c d e f others s keep r u p h1 h2 h3 h4 h5 =
    bind (stream a) s
    (λ s. either_word (codes "keep") true (codes "last") false b >>= λ k. response c d e f >>= λ r. alt_of (alt_words_in others) >>= λ u. proof_of (behind_alt others) >>= λ p.
    Ok (report.Answered s r k u p)) h1
    ∙ bind (either_word (codes "keep") true (codes "last") false b) keep
    (λ k. response c d e f >>= λ r. alt_of (alt_words_in others) >>= λ u. proof_of (behind_alt others) >>= λ p. Ok (report.Answered s r k u p)) h2
    ∙ bind (response c d e f) r
    (λ r. alt_of (alt_words_in others) >>= λ u. proof_of (behind_alt others) >>= λ p. Ok (report.Answered s r keep u p)) h3
    ∙ bind (alt_of (alt_words_in others)) u (λ u. proof_of (behind_alt others) >>= λ p. Ok (report.Answered s r keep u p)) h4
    ∙ bind (proof_of (behind_alt others)) p (λ p. Ok (report.Answered s r keep u p)) h5

pub answered_back : (s : StreamNo) (r : Response) (keep : Bool) (u : AltUpdate) (p : Proof) → Fits32 s.0 → ResponseFits r → AltFits u → ProofFits p
    → IsTrue (is_writable_response r) → IsTrue (is_writable_alt u) → answered (report_words (report.Answered s r keep u p)) ≡ Ok (report.Answered s r keep u p)
answered_back s r keep u p fits_s fits_r fits_u fits_p writes_r writes_u =
    answered_steps (decimal s.0) (keep_text keep) (decimal r.status) (fields_text r.fields) (octets_text r.body) (fields_text r.trailers) (alt_words u ++ proof_words p)
    s keep r u p (stream_back s fits_s) (keep_back keep) (response_back r fits_r writes_r)
    (ap alt_of (alt_in_back u p) ∙ alt_back u fits_u writes_u) (ap proof_of (behind_alt_back u p) ∙ proof_back p fits_p)

-- ---- the others

pub limit_back : (n : ℕ) → Fits32 n → limit (decimal n ∷ []) ≡ Ok (report.Limit n)
limit_back n fits = bind (small (decimal n)) n (λ m. Ok (report.Limit m)) (small_back n fits)

reset_steps : (a b : List ℕ) (s : StreamNo) (code : ℕ) → stream a ≡ Ok s → small b ≡ Ok code → reset (a ∷ b ∷ []) ≡ Ok (report.Reset s code)
reset_steps a b s code h1 h2 =
    bind (stream a) s (λ s. small b >>= λ n. Ok (report.Reset s n)) h1 ∙ bind (small b) code (λ n. Ok (report.Reset s n)) h2

pub reset_back : (s : StreamNo) (code : ℕ) → Fits32 s.0 → Fits32 code → reset (decimal s.0 ∷ decimal code ∷ []) ≡ Ok (report.Reset s code)
reset_back s code fits_s fits_code = reset_steps (decimal s.0) (decimal code) s code (stream_back s fits_s) (small_back code fits_code)

alt_seen_steps : (at : List ℕ) (others : List (List ℕ)) (o : Origin) (u : AltUpdate) → origin at ≡ Ok o → alt_of others ≡ Ok u
    → alt_seen (at ∷ others) ≡ Ok (report.AltSeen o u)
alt_seen_steps at others o u h1 h2 =
    bind (origin at) o (λ o. alt_of others >>= λ u. Ok (report.AltSeen o u)) h1 ∙ bind (alt_of others) u (λ u. Ok (report.AltSeen o u)) h2

pub alt_seen_back : (o : Origin) (u : AltUpdate) → Fits16 o.port → AltFits u → IsTrue (is_writable_alt u)
    → alt_seen (origin_text o ∷ alt_words u) ≡ Ok (report.AltSeen o u)
alt_seen_back o u fits_o fits_u writes = alt_seen_steps (origin_text o) (alt_words u) o u (origin_back o fits_o) (alt_back u fits_u writes)

pub stream_report_back : (word : List ℕ) (s : StreamNo) → Fits32 s.0 → stream_report word (decimal s.0 ∷ []) ≡ told_of word s
stream_report_back word s fits = bind (stream (decimal s.0)) s (λ t. told_of word t) (stream_back s fits)

pub report_back : (r : Report) → ReportFits r → IsTrue (is_writable_report r) → report_at (report_name r) (report_words r) ≡ Ok r
unfolding report_at
report_back (report.Opened i) fits writes = opened_back i fits writes
report_back (report.Limit n) fits writes = limit_back n fits
report_back (report.Answered s r keep u p) fits writes =
    let both = and_parts (is_writable_response r) (is_writable_alt u) writes in
    answered_back s r keep u p fits.0 fits.1 fits.2 fits.3 both.0 both.1
report_back (report.Refused s) fits writes = stream_report_back (codes "refused") s fits
report_back (report.Reset s code) fits writes = reset_back s code fits.0 fits.1
report_back (report.TooLarge s) fits writes = stream_report_back (codes "too-large") s fits
report_back (report.StreamClosed s) fits writes = stream_report_back (codes "stream-closed") s fits
report_back (report.Goaway last) fits writes = stream_report_back (codes "goaway") last fits
report_back (report.AltSeen origin u) fits writes =
    alt_seen_back origin u fits.0 fits.1 (and_parts (is_word origin.host) (is_writable_alt u) writes).1
