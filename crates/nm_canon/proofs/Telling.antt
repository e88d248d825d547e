-- Blocks that fit where they stand, with what they tell.
use Rattle.std.proofs.Common.{◌≡◌, ◌∙◌, ℕ, ◌+◌, arith, Bool, true, ◌&&◌, List, [], ◌∷◌, ◌++◌, Option, Some, is_some, refl, sym, ap, append_assoc, append-nil}
use Rattle.nm_ident.specs.QualifiedName.{QualifiedName}
use Rattle.nm_piece.specs.declared.piece.Attribute.{Attribute}
use Rattle.nm_piece.specs.declared.piece.QName.{QName}
use Rattle.nm_reader.specs.Blocks.{Blocks, counted, fits, place_after, tag_in, told, Element, Empty, End}
use Rattle.nm_reader.specs.declared.counts.Counts.{Counts}
use Rattle.nm_reader.specs.declared.meaning.Meaning.{Meaning}
use Rattle.nm_reader.specs.Meaning.{are_allowed, counted_by, has_short_iris, inside_of, listed, meaning_of, told_at_end, told_by}
use Rattle.nm_reader.specs.declared.fact.Fact.{Fact}
use Rattle.nm_reader.specs.Opened.{Declaration}
use Rattle.nm_reader.specs.Namespaces.{Given, are_spelt_once, element_name, given_by, has_declared_prefixes, has_namespace, scope_inside}
use Rattle.nm_reader.specs.declared.place.Place.{Place}
use Rattle.nm_reader.specs.declared.place.Role.{Role}
use Rattle.nm_reader.specs.Place.{place_behind, role_of}
use Rattle.nm_reader.specs.Tag.{behind_tag, counted_by_tag, inside_of_tag, is_taken, told_by_tag}
use Rattle.nm_reader.specs.Texts.{may_end, takes_text, with_text}
use Rattle.nm_reader.specs.Limits.{nothing, plus}
use Rattle.nm_canon.proofs.Made.{feed}

-- ---- counts

-- these counts and those
abbrev pub adding : List Counts → Counts → Counts
adding [] rest = rest
adding (counts ∷ others) rest = plus counts (adding others rest)

pub nothing_plus : (counts : Counts) → plus nothing counts ≡ counts
nothing_plus counts = λ i. record {
  statements = none counts.statements i;
  changes = none counts.changes i;
  profiles = none counts.profiles i;
  dependencies = none counts.dependencies i;
  superseded = none counts.superseded i;
}
  where
    none : (n : ℕ) → 0 + n ≡ n
    none n = omega arith

plus_assoc : (x y z : Counts) → plus (plus x y) z ≡ plus x (plus y z)
plus_assoc x y z = λ i. record {
  statements = all x.statements y.statements z.statements i;
  changes = all x.changes y.changes z.changes i;
  profiles = all x.profiles y.profiles z.profiles i;
  dependencies = all x.dependencies y.dependencies z.dependencies i;
  superseded = all x.superseded y.superseded z.superseded i;
}
  where
    all : (a b c : ℕ) → (a + b) + c ≡ a + (b + c)
    all a b c = omega arith

adding-append : (xs ys : List Counts) (rest : Counts) → adding (xs ++ ys) rest ≡ adding xs (adding ys rest)
adding-append [] ys rest = refl
adding-append (x ∷ xs) ys rest = ap (plus x) (adding-append xs ys rest)

adding_plus : (xs : List Counts) (rest : Counts) → plus (adding xs nothing) rest ≡ adding xs rest
adding_plus [] rest = nothing_plus rest
adding_plus (x ∷ xs) rest = plus_assoc x (adding xs nothing) rest ∙ ap (plus x) (adding_plus xs rest)

-- ---- blocks

-- blocks before any others: they fit, and leave the place as it is
pub record Tells (place : Place) (scope : List Declaration) (block : Blocks → Blocks) (facts : List Fact) (counts : List Counts) : Type 0 where
  pub fit : (behind : Blocks) → fits place scope (block behind) ≡ fits place scope behind
  pub tell : (behind : Blocks) → told place scope (block behind) ≡ facts ++ told place scope behind
  pub count : (behind : Blocks) → counted place scope (block behind) ≡ adding counts (counted place scope behind)
  pub after : (behind : Blocks) → place_after place scope (block behind) ≡ place_after place scope behind

pub tells_nothing : (place : Place) (scope : List Declaration) → Tells place scope (λ behind. behind) [] []
tells_nothing place scope = record { fit = λ behind. refl; tell = λ behind. refl; count = λ behind. refl; after = λ behind. refl }

pub tells_both : (place : Place) (scope : List Declaration) (one other : Blocks → Blocks) (facts more : List Fact) (counts also : List Counts)
    → Tells place scope one facts counts → Tells place scope other more also → Tells place scope (λ behind. one (other behind)) (facts ++ more) (counts ++ also)
tells_both place scope one other facts more counts also first second = record {
  fit = λ behind. first.fit (other behind) ∙ second.fit behind;
  tell = λ behind. first.tell (other behind) ∙ ap (λ (rest : List Fact). facts ++ rest) (second.tell behind) ∙ sym (append_assoc facts more (told place scope behind));
  count = λ behind. first.count (other behind) ∙ ap (adding counts) (second.count behind) ∙ sym (adding-append counts also (counted place scope behind));
  after = λ behind. first.after (other behind) ∙ second.after behind;
}

-- ---- tags

-- a tag in a place, in the scope around it, with the scope inside
pub record IsTag (place : Place) (outer scope : List Declaration) (name : QName) (attributes : List Attribute) (inside behind : Place) (facts : List Fact) (counts : List Counts) : Type 0 where
  pub scoped : scope_inside outer attributes ≡ scope
  pub taken : is_taken (tag_in place outer name attributes) ≡ true
  pub within : inside_of_tag (tag_in place outer name attributes) ≡ inside
  pub after : behind_tag (tag_in place outer name attributes) ≡ behind
  pub tells : told_by_tag (tag_in place outer name attributes) ≡ facts
  pub counts_for : (rest : Counts) → plus (counted_by_tag (tag_in place outer name attributes)) rest ≡ adding counts rest

-- what is asked of a tag with this scope, name and attributes
abbrev asked : Place → QName → List Attribute → List Declaration → QualifiedName → List Given → Bool
asked place name attributes scope element given =
    are_spelt_once attributes && has_declared_prefixes scope name attributes && has_namespace element && are_allowed (role_of place element) given
    && is_some (meaning_of place (role_of place element) element given) && has_short_iris (told_by (meaning_of place (role_of place element) element given))

all_hold : (a b c d e f : Bool) → a ≡ true → b ≡ true → c ≡ true → d ≡ true → e ≡ true → f ≡ true → (a && b && c && d && e && f) ≡ true
all_hold a b c d e f is_a is_b is_c is_d is_e is_f = rw (is_a, is_b, is_c, is_d, is_e, is_f) refl

pub tag_within : (place : Place) (outer scope : List Declaration) (name : QName) (attributes : List Attribute) (element : QualifiedName) (given : List Given) (role : Role) (meaning : Meaning)
    → scope_inside outer attributes ≡ scope → element_name scope name ≡ element → has_declared_prefixes scope name attributes ≡ true → are_spelt_once attributes ≡ true
    → given_by scope attributes ≡ given → has_namespace element ≡ true → role_of place element ≡ role → are_allowed role given ≡ true → meaning_of place role element given ≡ Some meaning
    → has_short_iris (listed meaning.tells) ≡ true → IsTag place outer scope name attributes meaning.inside (place_behind role place) (listed meaning.tells) (meaning.counts ∷ [])
unfolding is_taken inside_of_tag behind_tag told_by_tag counted_by_tag
tag_within place outer scope name attributes element given role meaning scoped called prefixes once gives namespace plays allowed means short =
    let meant : meaning_of place (role_of place (element_name (scope_inside outer attributes) name)) (element_name (scope_inside outer attributes) name) (given_by (scope_inside outer attributes) attributes) ≡ Some meaning =
    ap (λ (s : List Declaration). meaning_of place (role_of place (element_name s name)) (element_name s name) (given_by s attributes)) scoped
    ∙ ap (λ (e : QualifiedName). meaning_of place (role_of place e) e (given_by scope attributes)) called
    ∙ ap (λ (g : List Given). meaning_of place (role_of place element) element g) gives
    ∙ ap (λ (r : Role). meaning_of place r element given) plays
    ∙ means in
    let here : meaning_of place (role_of place element) element given ≡ Some meaning = ap (λ (r : Role). meaning_of place r element given) plays ∙ means in
    record {
      scoped = scoped;
      taken =
          ap (λ (s : List Declaration). asked place name attributes s (element_name s name) (given_by s attributes)) scoped
          ∙ ap (λ (e : QualifiedName). asked place name attributes scope e (given_by scope attributes)) called
          ∙ ap (λ (g : List Given). asked place name attributes scope element g) gives
          ∙ all_hold (are_spelt_once attributes) (has_declared_prefixes scope name attributes) (has_namespace element) (are_allowed (role_of place element) given)
          (is_some (meaning_of place (role_of place element) element given)) (has_short_iris (told_by (meaning_of place (role_of place element) element given)))
          once prefixes namespace (ap (λ (r : Role). are_allowed r given) plays ∙ allowed) (ap (λ (m : Option Meaning). is_some m) here) (ap (λ (m : Option Meaning). has_short_iris (told_by m)) here ∙ short);
      within = ap inside_of meant;
      after = ap (λ (s : List Declaration). place_behind (role_of place (element_name s name)) place) scoped ∙ ap (λ (e : QualifiedName). place_behind (role_of place e) place) called ∙ ap (λ (r : Role). place_behind r place) plays;
      tells = ap told_by meant;
      counts_for = λ rest. ap (λ (m : Option Meaning). plus (counted_by m) rest) meant;
    }

-- a tag that declares nothing
pub tag_is : (place : Place) (scope : List Declaration) (name : QName) (attributes : List Attribute) (element : QualifiedName) (given : List Given) (role : Role) (meaning : Meaning)
    → scope_inside scope attributes ≡ scope → element_name scope name ≡ element → has_declared_prefixes scope name attributes ≡ true → are_spelt_once attributes ≡ true
    → given_by scope attributes ≡ given → has_namespace element ≡ true → role_of place element ≡ role → are_allowed role given ≡ true → meaning_of place role element given ≡ Some meaning
    → has_short_iris (listed meaning.tells) ≡ true → IsTag place scope scope name attributes meaning.inside (place_behind role place) (listed meaning.tells) (meaning.counts ∷ [])
tag_is place scope = tag_within place scope scope

-- white space may stand there, and leaves the place as it is
pub record TakesFeed (place : Place) : Type 0 where
  pub takes : takes_text place (10 ∷ []) ≡ true
  pub stays : with_text place (10 ∷ []) ≡ place

pub tells_feed : (place : Place) (scope : List Declaration) → TakesFeed place → Tells place scope feed [] []
tells_feed place scope white = record {
  fit = λ behind. rw (white.takes, white.stays) refl;
  tell = λ behind. ap (λ (place : Place). told place scope behind) white.stays;
  count = λ behind. ap (λ (place : Place). counted place scope behind) white.stays;
  after = λ behind. ap (λ (place : Place). place_after place scope behind) white.stays;
}

-- behind an element the place is as it was
behind_as : {X : Type 0} (of : Place → Blocks → X) (place next : Place) (behind : Blocks) → ((place : Place) → of place (feed behind) ≡ of (with_text place (10 ∷ [])) behind) → next ≡ place → TakesFeed place
    → of next (feed behind) ≡ of place behind
behind_as of place next behind skips is white = ap (λ (place : Place). of place (feed behind)) is ∙ skips place ∙ ap (λ (place : Place). of place behind) white.stays

pub tells_empty : (place : Place) (scope : List Declaration) (name : QName) (attributes : List Attribute) (inside : Place) (facts : List Fact) (counts : List Counts)
    → IsTag place scope scope name attributes inside place facts counts → TakesFeed place → may_end inside ≡ true → told_at_end inside ≡ [] → Tells place scope (λ behind. Empty name attributes (feed behind)) facts counts
tells_empty place scope name attributes inside facts counts tag white ends silent = record {
  fit = λ behind. rw (tag.taken, tag.within, tag.after, ends, white.takes, white.stays) refl;
  tell = λ behind. rw (tag.tells, tag.within, silent) (ap (λ (rest : List Fact). facts ++ rest) (behind_as (λ place behind. told place scope behind) place (behind_tag (tag_in place scope name attributes)) behind (λ place. refl) tag.after white));
  count = λ behind. tag.counts_for (counted (behind_tag (tag_in place scope name attributes)) scope (feed behind)) ∙ ap (adding counts) (behind_as (λ place behind. counted place scope behind) place (behind_tag (tag_in place scope name attributes)) behind (λ place. refl) tag.after white);
  after = λ behind. behind_as (λ place behind. place_after place scope behind) place (behind_tag (tag_in place scope name attributes)) behind (λ place. refl) tag.after white;
}

-- what stands inside an element
pub record IsInside (place : Place) (scope : List Declaration) (inner : Blocks) (facts : List Fact) (counts : List Counts) : Type 0 where
  pub end : Place
  pub fit : fits place scope inner ≡ true
  pub after : place_after place scope inner ≡ end
  pub ends : may_end end ≡ true
  pub facts_inside : List Fact
  pub tell : told place scope inner ≡ facts_inside
  pub all : facts_inside ++ told_at_end end ≡ facts
  pub count : (rest : Counts) → plus (counted place scope inner) rest ≡ adding counts rest

tells_joined : (a b c rest : List Fact) → a ++ (b ++ (c ++ rest)) ≡ (a ++ (b ++ c)) ++ rest
tells_joined a b c rest = sym (simp append_assoc)

pub tells_element : (place : Place) (scope : List Declaration) (name : QName) (attributes : List Attribute) (inner : Blocks) (inside : Place) (facts more : List Fact) (counts also : List Counts)
    → IsTag place scope scope name attributes inside place facts counts → TakesFeed place → IsInside inside scope inner more also
    → Tells place scope (λ behind. Element name attributes inner (feed behind)) (facts ++ more) (counts ++ also)
tells_element place scope name attributes inner inside facts more counts also tag white within = record {
  fit = λ behind. rw (tag.taken, tag.within, tag.scoped, tag.after, within.fit, within.after, within.ends, white.takes, white.stays) refl;
  tell = λ behind. rw (tag.tells, tag.within, tag.scoped, within.after, within.tell) (ap (λ (rest : List Fact). facts ++ (within.facts_inside ++ (told_at_end within.end ++ rest))) (behind_as (λ place behind. told place scope behind) place (behind_tag (tag_in place scope name attributes)) behind (λ place. refl) tag.after white) ∙ tells_joined facts within.facts_inside (told_at_end within.end) (told place scope behind) ∙ ap (λ (all : List Fact). (facts ++ all) ++ told place scope behind) within.all);
  count = λ behind.
      let last = counted (behind_tag (tag_in place scope name attributes)) scope (feed behind) in
      tag.counts_for (plus (counted (inside_of_tag (tag_in place scope name attributes)) (scope_inside scope attributes) inner) last)
      ∙ ap (λ (inside : Place). adding counts (plus (counted inside (scope_inside scope attributes) inner) last)) tag.within
      ∙ ap (λ (scope : List Declaration). adding counts (plus (counted inside scope inner) last)) tag.scoped
      ∙ ap (adding counts) (within.count last)
      ∙ ap (λ (rest : Counts). adding counts (adding also rest)) (behind_as (λ place behind. counted place scope behind) place (behind_tag (tag_in place scope name attributes)) behind (λ place. refl) tag.after white)
      ∙ sym (adding-append counts also (counted place scope behind));
  after = λ behind. behind_as (λ place behind. place_after place scope behind) place (behind_tag (tag_in place scope name attributes)) behind (λ place. refl) tag.after white;
}

-- blocks before the end of an element that tells nothing there
pub inside_of_blocks : (place : Place) (scope : List Declaration) (block : Blocks → Blocks) (facts : List Fact) (counts : List Counts)
    → Tells place scope block facts counts → TakesFeed place → may_end place ≡ true → told_at_end place ≡ [] → IsInside place scope (feed (block End)) facts counts
inside_of_blocks place scope block facts counts tells white ends silent = record {
  end = place;
  fit = rw (white.takes, white.stays) (tells.fit End);
  after = ap (λ (place : Place). place_after place scope (block End)) white.stays ∙ tells.after End;
  ends = ends;
  facts_inside = facts ++ [];
  tell = ap (λ (place : Place). told place scope (block End)) white.stays ∙ tells.tell End;
  all = ap (λ (last : List Fact). (facts ++ []) ++ last) silent ∙ append-nil (facts ++ []) ∙ append-nil facts;
  count = λ rest. ap (λ (place : Place). plus (counted place scope (block End)) rest) white.stays ∙ ap (λ (all : Counts). plus all rest) (tells.count End) ∙ adding_plus counts rest;
}

-- blocks before any others that lead to another place
pub record Leads (place next : Place) (scope : List Declaration) (block : Blocks → Blocks) (facts : List Fact) (counts : List Counts) : Type 0 where
  pub fit : (behind : Blocks) → fits place scope (block behind) ≡ fits next scope behind
  pub tell : (behind : Blocks) → told place scope (block behind) ≡ facts ++ told next scope behind
  pub count : (behind : Blocks) → counted place scope (block behind) ≡ adding counts (counted next scope behind)
  pub after : (behind : Blocks) → place_after place scope (block behind) ≡ place_after next scope behind

-- an element, its scope inside, and another place behind it
pub element_leads : (place next : Place) (outer scope : List Declaration) (name : QName) (attributes : List Attribute) (inner : Blocks) (inside : Place) (facts more : List Fact) (counts also : List Counts)
    → IsTag place outer scope name attributes inside next facts counts → TakesFeed next → IsInside inside scope inner more also
    → Leads place next outer (λ behind. Element name attributes inner (feed behind)) (facts ++ more) (counts ++ also)
element_leads place next outer scope name attributes inner inside facts more counts also tag white within = record {
  fit = λ behind. rw (tag.taken, tag.within, tag.scoped, tag.after, within.fit, within.after, within.ends, white.takes, white.stays) refl;
  tell = λ behind. rw (tag.tells, tag.within, tag.scoped, within.after, within.tell) (ap (λ (rest : List Fact). facts ++ (within.facts_inside ++ (told_at_end within.end ++ rest))) (behind_as (λ place behind. told place outer behind) next (behind_tag (tag_in place outer name attributes)) behind (λ place. refl) tag.after white) ∙ tells_joined facts within.facts_inside (told_at_end within.end) (told next outer behind) ∙ ap (λ (all : List Fact). (facts ++ all) ++ told next outer behind) within.all);
  count = λ behind.
      let last = counted (behind_tag (tag_in place outer name attributes)) outer (feed behind) in
      tag.counts_for (plus (counted (inside_of_tag (tag_in place outer name attributes)) (scope_inside outer attributes) inner) last)
      ∙ ap (λ (inside : Place). adding counts (plus (counted inside (scope_inside outer attributes) inner) last)) tag.within
      ∙ ap (λ (scope : List Declaration). adding counts (plus (counted inside scope inner) last)) tag.scoped
      ∙ ap (adding counts) (within.count last)
      ∙ ap (λ (rest : Counts). adding counts (adding also rest)) (behind_as (λ place behind. counted place outer behind) next (behind_tag (tag_in place outer name attributes)) behind (λ place. refl) tag.after white)
      ∙ sym (adding-append counts also (counted next outer behind));
  after = λ behind. behind_as (λ place behind. place_after place outer behind) next (behind_tag (tag_in place outer name attributes)) behind (λ place. refl) tag.after white;
}

-- blocks that lead to a place, and others there, before the end
pub inside_led : (place next : Place) (scope : List Declaration) (first second : Blocks → Blocks) (facts more : List Fact) (counts also : List Counts)
    → Leads place next scope first facts counts → Tells next scope second more also → TakesFeed place → may_end next ≡ true → told_at_end next ≡ []
    → IsInside place scope (feed (first (second End))) (facts ++ more) (counts ++ also)
inside_led place next scope first second facts more counts also leads tells white ends silent = record {
  end = next;
  fit = rw (white.takes, white.stays) (leads.fit (second End) ∙ tells.fit End);
  after = ap (λ (place : Place). place_after place scope (first (second End))) white.stays ∙ leads.after (second End) ∙ tells.after End;
  ends = ends;
  facts_inside = facts ++ (more ++ []);
  tell = ap (λ (place : Place). told place scope (first (second End))) white.stays ∙ leads.tell (second End) ∙ ap (λ (rest : List Fact). facts ++ rest) (tells.tell End);
  all = ap (λ (last : List Fact). (facts ++ (more ++ [])) ++ last) silent ∙ append-nil (facts ++ (more ++ [])) ∙ ap (λ (rest : List Fact). facts ++ rest) (append-nil more);
  count = λ rest.
      ap (λ (place : Place). plus (counted place scope (first (second End))) rest) white.stays
      ∙ ap (λ (all : Counts). plus all rest) (leads.count (second End) ∙ ap (adding counts) (tells.count End) ∙ sym (adding-append counts also nothing))
      ∙ adding_plus (counts ++ also) rest;
}

-- what counts for nothing may be left out
pub quiet : (place : Place) (outer scope : List Declaration) (name : QName) (attributes : List Attribute) (inside behind : Place) (facts : List Fact)
    → IsTag place outer scope name attributes inside behind facts (nothing ∷ []) → IsTag place outer scope name attributes inside behind facts []
quiet place outer scope name attributes inside behind facts tag = record {
  scoped = tag.scoped;
  taken = tag.taken;
  within = tag.within;
  after = tag.after;
  tells = tag.tells;
  counts_for = λ rest. tag.counts_for rest ∙ nothing_plus rest;
}

pub tells_quietly : (place : Place) (scope : List Declaration) (block : Blocks → Blocks) (facts : List Fact) → Tells place scope block facts (nothing ∷ []) → Tells place scope block facts []
tells_quietly place scope block facts tells = record { fit = tells.fit; tell = tells.tell; count = λ behind. tells.count behind ∙ nothing_plus (counted place scope behind); after = tells.after }
