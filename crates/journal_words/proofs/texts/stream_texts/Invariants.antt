use Rattle.std.proofs.Common.{◌≡◌, map, take, decimal}
use Rattle.net_base.specs.declared.numbers.StreamNo.{StreamNo}
use Rattle.journal_words.proofs.texts.stream_texts.Given as goal

abbrev pub invariant-loop-stream : goal.invariant-loop-stream
invariant-loop-stream l = l.texts ≡ map (λ (s : StreamNo). decimal s.0) (take l.stream-index l.streams)
