use Rattle.std.proofs.Common.{◌≡◌, map, take}
use Rattle.httparse.specs.Spans.{header_bytes}
use Rattle.h1_frames.specs.Heads.{lowered}
use Rattle.h1_frames.proofs.head.fields_from.Given as goal

abbrev pub invariant-loop-span : goal.invariant-loop-span
invariant-loop-span l = l.fields ≡ map (λ s. lowered (header_bytes l.unit s)) (take l.span-index l.spans)
