use Rattle.journal_words.proofs.Back.{number_back, moment_back, deadline_back, stream_back, streams_back, octets_back, address_back, addresses_back}
use Rattle.journal_words.proofs.word_laws.numbers_are_read_back.Goals as goal

pub returns : goal.returns
returns c = record {
  number = number_back;
  moment = moment_back;
  deadline = deadline_back;
  stream = stream_back;
  streams = streams_back;
  octets = octets_back;
  address = address_back;
  addresses = addresses_back;
}
