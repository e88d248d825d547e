-- The timeline of a statement: whether the base has it, and how the steps that name it do so.
use Rattle.std.specs.Prelude.{◌≡◌, ℕ, List, [], ◌∷◌, Bool, true, false, ◌&&◌, ◌||◌, not, map, Option, None, Some}
use Rattle.std.specs.BTreeSet.{insert_key}
use Rattle.std.specs.List.{AllByRecursion, IsDistinct, filter, fold, list_any}
use Rattle.std.specs.List.Sorted.{IsStrictlySortedBy}
use Rattle.std.specs.Ordering.{eq_by_cmp, is_le}
use Rattle.std.specs.declared.cmp.Ordering.{Ordering}
use Rattle.nm_day.specs.Day.{day_cmp}
use Rattle.nm_day.specs.Key.{key_cmp}
use Rattle.nm_day.specs.declared.key.Key.{Key}
use Rattle.nm_timeline.specs.declared.mark.Mark.{Mark}
use Rattle.nm_timeline.specs.declared.part.Part.{Part}
use Rattle.nm_timeline.specs.declared.part.Part.TheVariants.{Precondition, Reverse, Forward}

-- an entry is where a step stands, and how it names the statement
pub record PlainTimeline : Type 0 where
  pub base : Bool
  pub entries : List (Key × Mark)

abbrev pub entry_cmp : Key × Mark → Key × Mark → Ordering
entry_cmp x y = key_cmp x.0 y.0

-- each entry stands before those after it
abbrev pub IsInOrder : List (Key × Mark) → Type 0
IsInOrder entries = IsStrictlySortedBy entry_cmp entries

-- ---- presence

-- whether the statement is there after a step that names it so
abbrev pub marked : Bool → Mark → Bool
marked before mark = (before && not mark.rev) || mark.fwd

-- whether the step is in service on a day
abbrev pub is_by : List ℕ → Key × Mark → Bool
is_by day entry = is_le (day_cmp entry.0.day day)

-- whether the statement is there after all entries
abbrev pub present_after : Bool → List (Key × Mark) → Bool
present_after present entries = fold marked present (map (λ entry. entry.1) entries)

abbrev pub present_at : PlainTimeline → List ℕ → Bool
present_at timeline day = present_after timeline.base (filter (is_by day) timeline.entries)

-- ---- what does not fit

-- of a statement that is there or not: the first part that does not fit, of those in which it is a
-- precondition, a reverse and a forward statement
abbrev pub first_part : Bool → Bool → Bool → Bool → Option Part
first_part false true rev fwd = Some Precondition
first_part false false true fwd = Some Reverse
first_part false false false fwd = None
first_part true pre rev true = Some Forward
first_part true pre rev false = None

abbrev pub part_break : Bool → Mark → Option Part
part_break present mark = first_part present mark.pre mark.rev mark.fwd

abbrev pub break_or : Key → Option Part → Option (Key × Part) → Option (Key × Part)
break_or key None later = later
break_or key (Some part) later = Some (key, part)

-- the first entry that does not fit what the entries before it leave, and its first part that does not
abbrev pub first_break_from : Bool → List (Key × Mark) → Option (Key × Part)
first_break_from present [] = None
first_break_from present (entry ∷ entries) =
    break_or entry.0 (part_break present entry.1) (first_break_from (marked present entry.1) entries)

abbrev pub first_break_of : PlainTimeline → Option (Key × Part)
first_break_of timeline = first_break_from timeline.base timeline.entries

-- ---- an edit

-- whether the key is one of the list
abbrev pub has_key : List Key → Key → Bool
has_key keys key = list_any (λ other. eq_by_cmp key_cmp other key) keys

-- whether an entry stands at the key of this one
abbrev pub is_taken : List (Key × Mark) → Key × Mark → Bool
is_taken entries entry = list_any (eq_by_cmp entry_cmp entry) entries

-- the entries at other keys than these
abbrev pub without_keys : List Key → List (Key × Mark) → List (Key × Mark)
without_keys keys entries = filter (λ entry. not (has_key keys entry.0)) entries

-- the entries and these, each put at its place
abbrev pub with_entries : List (Key × Mark) → List (Key × Mark) → List (Key × Mark)
with_entries entries added = fold (insert_key entry_cmp) entries added

abbrev pub edited_of : PlainTimeline → List Key → List (Key × Mark) → PlainTimeline
edited_of timeline remove add = record {
  base = timeline.base;
  entries = with_entries (without_keys remove timeline.entries) add;
}

-- the keys of these differ, and no entry stands at one of them
pub record CanAdd (entries add : List (Key × Mark)) : Type 0 where
  pub apart : IsDistinct (eq_by_cmp entry_cmp) add
  pub free : AllByRecursion (λ entry. is_taken entries entry ≡ false) add
