use Rattle.std.proofs.Common.{◌≡◌, map, take}
use Rattle.hex.specs.Hex.{encode_lower}
use Rattle.journal_words.proofs.texts.address_texts.Given as goal

abbrev pub invariant-loop-address : goal.invariant-loop-address
invariant-loop-address l = l.texts ≡ map encode_lower (take l.address-index l.addresses)
