-- What the definitions say of a few items.
use Rattle.std.specs.Prelude.{◌≡◌, ℕ, None, Some, [], ◌∷◌, List, refl}
use Rattle.std.specs.Ordering.{nat_cmp}
use Rattle.nm_blocks.specs.Blocks.{joined}
use Rattle.nm_blocks.specs.Items.{item_at, first_from, with_item, with_all, without, without_all}

-- items of a key and a value
abbrev key_of : ℕ × ℕ → ℕ
key_of item = item.0

abbrev three : List (ℕ × ℕ)
three = (10, 1) ∷ (20, 2) ∷ (30, 3) ∷ []

an_item_is_found : item_at key_of nat_cmp 20 three ≡ Some (20, 2)
an_item_is_found = refl

no_item_is_found : item_at key_of nat_cmp 15 three ≡ None
no_item_is_found = refl

the_first_may_stand_at_its_key : first_from key_of nat_cmp 20 three ≡ Some (20, 2)
the_first_may_stand_at_its_key = refl

the_first_may_stand_behind_its_key : first_from key_of nat_cmp 21 three ≡ Some (30, 3)
the_first_may_stand_behind_its_key = refl

no_item_is_first_behind_all : first_from key_of nat_cmp 31 three ≡ None
no_item_is_first_behind_all = refl

a_new_item_comes_to_its_place : with_item key_of nat_cmp (15, 9) three ≡ (10, 1) ∷ (15, 9) ∷ (20, 2) ∷ (30, 3) ∷ []
a_new_item_comes_to_its_place = refl

an_equal_key_gives_way : with_item key_of nat_cmp (20, 9) three ≡ (10, 1) ∷ (20, 9) ∷ (30, 3) ∷ []
an_equal_key_gives_way = refl

a_key_is_taken_out : without key_of nat_cmp 20 three ≡ (10, 1) ∷ (30, 3) ∷ []
a_key_is_taken_out = refl

an_absent_key_takes_nothing_out : without key_of nat_cmp 15 three ≡ three
an_absent_key_takes_nothing_out = refl

several_come_to_their_places : with_all key_of nat_cmp ((5, 7) ∷ (20, 9) ∷ (40, 8) ∷ []) three ≡ (5, 7) ∷ (10, 1) ∷ (20, 9) ∷ (30, 3) ∷ (40, 8) ∷ []
several_come_to_their_places = refl

several_are_taken_out : without_all key_of nat_cmp (10 ∷ 15 ∷ 30 ∷ []) three ≡ (20, 2) ∷ []
several_are_taken_out = refl

blocks_are_one_list : joined (((10, 1) ∷ (20, 2) ∷ []) ∷ ((30, 3) ∷ []) ∷ []) ≡ three
blocks_are_one_list = refl
