-- Hosts (URL Standard, URL parsing and host serializing).
use Rattle.std.specs.Prelude.{ℕ, List, ◌++◌, Bool, false, bytes_eq, codes, Option, Some, None, option_map, Result, Ok, Err}
use Rattle.url.specs.declared.error.ParseError.{ParseError}
use Rattle.url.specs.Host.{host_text}
use Rattle.url.specs.Parser.{parse_url}
use Rattle.url.specs.Parts.{Parts, nonempty_host}

-- what stands there is this text
abbrev pub is_text : List ℕ → Option (List ℕ) → Bool
is_text text None = false
is_text text (Some t) = bytes_eq t text

-- the text was read as a URL that has this host
abbrev pub has_host : List ℕ → Result Parts ParseError → Bool
has_host host (Ok u) = is_text host (option_map host_text (nonempty_host u))
has_host host (Err e) = false

-- `http://` and the text parse as a URL, whose host is written as the text is
abbrev pub is_plain_host : List ℕ → Bool
is_plain_host host = has_host host (parse_url None (codes "http://" ++ host))
