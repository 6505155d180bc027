-- What a scripted HTTP/1.1 origin answers (RFC 9112, sections 4 and 5).
use Rattle.std.specs.Prelude.{ℕ, Bool, true, false, ◌&&◌, ◌||◌, ◌==◌, List, [], ◌∷◌, ◌++◌, length, replicate, flat_map, find, Option, Some, None, codes, bytes_eq, if◌then◌else◌}
use Rattle.std.specs.List.{list_any}
use Rattle.std.specs.Fmt.{decimal}
use Rattle.net_base.specs.declared.field.Field.{Field}
use Rattle.net_base.specs.declared.peer.Answer.{Answer}
use Rattle.net_base.specs.declared.peer.AnswerBody.{AnswerBody}
use Rattle.net_base.specs.declared.peer.AnswerBody.TheVariants.{Text, Size}
use Rattle.origin_core.specs.declared.scripted_request.Asked.{Asked}

-- the authority of an answer fits: it has none, or a Host field of the request is it
abbrev pub authority_fits : Asked → Option (List ℕ) → Bool
authority_fits asked None = true
authority_fits asked (Some authority) = list_any (λ f. bytes_eq f.name (codes "host") && bytes_eq f.value authority) asked.fields

-- the path of an answer fits: it is `*` or the request's target
abbrev pub path_fits : Asked → List ℕ → Bool
path_fits asked path = bytes_eq path (codes "*") || bytes_eq path asked.target

-- an answer fits a request
abbrev pub fits : Asked → Answer → Bool
fits asked answer = path_fits asked answer.path && authority_fits asked answer.authority

-- a body of Size n is n octets x
abbrev pub body_octets : AnswerBody → List ℕ
body_octets (Text octets) = octets
body_octets (Size n) = replicate n 120

abbrev pub crlf : List ℕ
crlf = 13 ∷ 10 ∷ []

-- RFC 9112, section 4: the status line, with no reason
abbrev pub status_line : ℕ → List ℕ
status_line status = codes "HTTP/1.1 " ++ decimal status ++ 32 ∷ crlf

-- RFC 9112, section 5: a field line
abbrev pub field_line : Field → List ℕ
field_line f = f.name ++ codes ": " ++ f.value ++ crlf

-- RFC 9110, sections 15.3.5 and 15.4.5: no content with status 204 and with 304. Scripts answer with statuses from 200 to
-- 599, so the informational ones, which have none either, don't come.
abbrev pub has_content : ℕ → Bool
has_content status = if status == 204 then false else (if status == 304 then false else true)

-- RFC 9110, section 8.6: the content-length, which is not sent with a status that has no content
abbrev pub length_line : ℕ → ℕ → List ℕ
length_line status size = if has_content status then codes "content-length: " ++ decimal size ++ crlf else []

-- RFC 9110, section 6.4.1: no body in the answer to HEAD, and none with a status that has no content
abbrev pub shown_body : List ℕ → ℕ → List ℕ → List ℕ
shown_body method status body = if bytes_eq method (codes "HEAD") then [] else (if has_content status then body else [])

-- the text of an answer
abbrev pub answer_text : List ℕ → ℕ → List Field → List ℕ → List ℕ
answer_text method status fields body =
    status_line status ++ flat_map field_line fields ++ length_line status (length body) ++ crlf ++ shown_body method status body

-- the answer that was found, or status 404 with an empty body
abbrev pub found_text : List ℕ → Option Answer → List ℕ
found_text method None = answer_text method 404 [] []
found_text method (Some answer) = answer_text method answer.status answer.fields (body_octets answer.body)

-- the first answer of the peer that fits is given
abbrev pub text_for : List Answer → Asked → List ℕ
text_for answers asked = found_text asked.method (find (fits asked) answers)
