-- Worked examples of the definitions, computed.
use Rattle.std.specs.Prelude.{◌≡◌, codes, true, false, refl}
use Rattle.nm_day.specs.Calendar.{is_civil, is_spelt, text_of, year_of}

spelling : text_of 2027 4 1 ≡ codes "2027-04-01"
spelling = refl

reading : year_of (codes "2027-04-01") ≡ 2027
reading = refl

one_digit : is_spelt (codes "2027-1-01") ≡ false
one_digit = refl

century : is_civil 1900 2 29 ≡ false
century = refl

fourth_century : is_civil 2000 2 29 ≡ true
fourth_century = refl
