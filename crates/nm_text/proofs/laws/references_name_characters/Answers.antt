use Rattle.nm_text.proofs.Fronts.{front_of_name, name_goes_on}
use Rattle.nm_text.proofs.TextsAgain.{referred_is_character}
use Rattle.nm_text.proofs.laws.references_name_characters.Goals as goal

pub returns : goal.returns
returns c = record { characters = referred_is_character; goes_on = name_goes_on; front = front_of_name }
