use Rattle.nm_text.proofs.Spellings as lemma
use Rattle.nm_text.proofs.laws.spellings_read_back.Goals as goal

pub returns : goal.returns
returns c = record {
  text = lemma.text_reads_back;
  attribute = lemma.attribute_reads_back;
  text_lines = lemma.text_lines_stay;
  attribute_lines = lemma.attribute_lines_stay;
}
