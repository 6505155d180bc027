use Rattle.journal_words.proofs.Back.{fields_back, names_back, key_back, origin_back, target_back, alt_back}
use Rattle.journal_words.proofs.word_laws.parts_are_read_back.Goals as goal

pub returns : goal.returns
returns c = record { fields = fields_back; names = names_back; key = key_back; origin = origin_back; target = target_back; alt = alt_back }
