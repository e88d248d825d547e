use Rattle.nm_text.proofs.TextsAgain as lemma
use Rattle.nm_text.proofs.laws.texts_stay_texts.Goals as goal

pub returns : goal.returns
returns c = record {
  text_spelt = lemma.spelling_is_text;
  attribute_spelt = lemma.attribute_spelling_is_text;
  run_read = lemma.run_is_text;
  cdata_read = lemma.lines_are_text;
  attribute_read = lemma.value_is_text;
}
