-- Worked examples of days, computed.
use Rattle.std.proofs.Common.{◌≡◌, codes, false, pos, negsuc, Ok, Err, refl}
use Rattle.std.specs.declared.cmp.Ordering.TheVariants.{Less}
use Rattle.nm_day.proofs.OnLiterals.{days_on_literals}
use Rattle.nm_day.specs.Day.{day_cmp, day_of, is_day, number_of}
use Rattle.nm_day.specs.Key.{key_cmp}

leap_day : day_of (codes "2000-02-29") ≡ Ok (codes "2000-02-29")
unfolding days_on_literals
leap_day = refl

no_leap_day : day_of (codes "1900-02-29") ≡ Err (record {})
unfolding days_on_literals
no_leap_day = refl

after_the_last : is_day (codes "3000-01-01") ≡ false
unfolding days_on_literals
after_the_last = refl

first_number : number_of (codes "1970-01-01") ≡ pos 0
unfolding days_on_literals
first_number = refl

before_it : number_of (codes "1969-12-31") ≡ negsuc 0
unfolding days_on_literals
before_it = refl

last_number : number_of (codes "2999-12-31") ≡ pos 376199
unfolding days_on_literals
last_number = refl

next_month : day_cmp (codes "2027-03-31") (codes "2027-04-01") ≡ Less
unfolding days_on_literals
next_month = refl

earlier_day_first : key_cmp (record { day = codes "2027-03-31"; filing = 2; stage = 1 }) (record { day = codes "2027-04-01"; filing = 1; stage = 0 }) ≡ Less
unfolding days_on_literals
earlier_day_first = refl
