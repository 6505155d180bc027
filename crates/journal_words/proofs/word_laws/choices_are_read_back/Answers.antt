use Rattle.journal_words.proofs.Back.{credentials_back, security_back, proto_back, way_back, cause_back, proof_back}
use Rattle.journal_words.proofs.word_laws.choices_are_read_back.Goals as goal

pub returns : goal.returns
returns c = record { credentials = credentials_back; security = security_back; proto = proto_back; way = way_back; cause = cause_back; proof = proof_back }
