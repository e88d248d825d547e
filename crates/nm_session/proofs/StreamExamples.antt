-- Short streams, with their replies and endings.
use Rattle.std.proofs.Common.{◌≡◌, ℕ, List, [], ◌∷◌, ◌++◌, codes, None, Some, Ok, Err, refl, lit<, lit≤}
use Rattle.std.specs.Prelude.{replicate}
use Rattle.nm_base.specs.declared.outcome.Status.TheVariants as statuses
use Rattle.nm_day.specs.Day.{is_day}
use Rattle.nm_version.specs.Kept.{Kept}
use Rattle.nm_session.specs.Answered.{AppendsPrefix, HasCause}
use Rattle.nm_session.specs.Ending.{Ended, Cut}
use Rattle.nm_session.specs.Input.{GivesLine}
use Rattle.nm_session.specs.Opening.{error_by, opened_from, opening_of}
use Rattle.nm_session.specs.Reply.{numbered}
use Rattle.nm_session.specs.Stream.{Command, next_in, outcome, outcome_within, bad_line, short}
use Rattle.nm_session.specs.Word.{length_of, dated_line, object_line, project_line, word_of}
use Rattle.nm_session.specs.declared.state.State.TheVariants.{Empty, Store}
use Rattle.nm_session.specs.PlainWord.{Base, Assemble, End}

-- ---- how a stream is cut: a base, the model of a day, and the end

base_document : List ℕ
base_document =
    codes "<?xml version=\"1.0\" encoding=\"UTF-8\"?>" ++ 10
    ∷ codes "<rdf:RDF xmlns:rdf=\"http://www.w3.org/1999/02/22-rdf-syntax-ns#\" xmlns:md=\"http://iec.ch/TC57/61970-552/ModelDescription/1#\" xmlns:cim=\"http://iec.ch/TC57/2013/CIM-schema-cim16#\">" ++ 10
    ∷ codes "<md:FullModel rdf:about=\"urn:uuid:10000000-0000-4000-8000-000000000001\">" ++ 10
    ∷ codes "</md:FullModel>" ++ 10
    ∷ codes "<cim:Substation rdf:ID=\"_20000000-0000-4000-8000-000000000001\">" ++ 10
    ∷ codes "<cim:IdentifiedObject.name>North</cim:IdentifiedObject.name>" ++ 10
    ∷ codes "</cim:Substation>" ++ 10
    ∷ codes "</rdf:RDF>" ++ 10
    ∷ []

behind_base : List ℕ
behind_base = codes "assemble 2027-01-01" ++ 10 ∷ codes "end" ++ 10 ∷ []

base_comes : next_in Empty (codes "base 462" ++ 10 ∷ base_document ++ behind_base) ≡ Command (Base 462) base_document behind_base
unfolding word_of length_of base_document behind_base
base_comes = refl

day_comes : (kept : Kept) → next_in (Store kept) behind_base ≡ Command (Assemble (codes "2027-01-01")) [] (codes "end" ++ 10 ∷ [])
unfolding word_of dated_line is_day behind_base
day_comes kept = refl

end_comes : (kept : Kept) → next_in (Store kept) (codes "end" ++ 10 ∷ []) ≡ Command End [] []
unfolding word_of
end_comes kept = refl

-- ---- short streams

-- a session of nothing but its end; what follows the end is not looked at
only_end : outcome (codes "end" ++ 10 ∷ codes "?") ≡ record { replies = numbered (codes "end") 0; ending = Ended; state = Empty }
unfolding outcome_within word_of
only_end = refl

-- a line that is no command there is named by the offset at which it begins
bad_first_line : outcome (codes "summary 2024-01-01" ++ 10 ∷ []) ≡ bad_line Empty 0
unfolding outcome_within word_of dated_line is_day
bad_first_line = refl

bad_later_line : outcome_within 2 Cut Empty 71 (10 ∷ []) ≡ bad_line Empty 71
unfolding outcome_within word_of dated_line project_line object_line
bad_later_line = refl

-- a document that ends before its length does
cut_document : outcome (codes "base 3" ++ 10 ∷ codes "ab") ≡ short Cut Empty
unfolding outcome_within word_of length_of
cut_document = refl

-- a rest of 256 bytes may still become a line, and one of 257 is too long for it
may_become_line : outcome (replicate 256 120) ≡ short Cut Empty
unfolding outcome_within
may_become_line = refl

too_long_for_line : outcome (replicate 257 120) ≡ bad_line Empty 0
unfolding outcome_within
too_long_for_line = refl

-- one of two bytes was written
one_of_two : AppendsPrefix (Some (1 ∷ [])) (Some (1 ∷ 2 ∷ [])) (2 ∷ 3 ∷ [])
one_of_two = (1, refl)

-- a fault is told where its count rose, and the other stayed
told : HasCause statuses.ReadFault 4 5 0 0 None
told = (lit≤ tt, refl)

-- what is cut was taken whole
taken_whole : HasCause statuses.Cut 4 4 0 0 (Some [])
taken_whole = ((refl, refl), refl)

-- ---- what a stream opens

no_base_accepted : opening_of (codes "end" ++ 10 ∷ []) ≡ Err (error_by statuses.Refused 0)
unfolding outcome_within word_of
no_base_accepted = refl

no_command : opening_of (codes "summary 2024-01-01" ++ 10 ∷ []) ≡ Err (error_by statuses.BadSession 0)
unfolding outcome_within word_of dated_line is_day
no_command = refl

cut_short : opening_of (codes "base 3" ++ 10 ∷ codes "ab") ≡ Err (error_by statuses.Cut 0)
unfolding outcome_within word_of length_of
cut_short = refl

-- a session that stands in a store where `end` comes opens it
read_to_its_end : (kept : Kept) → opened_from (outcome_within 1 Cut (Store kept) 71 (codes "end" ++ 10 ∷ [])) ≡ Ok kept
unfolding outcome_within word_of
read_to_its_end kept = refl

-- the line `end` was given from what was read ahead, and from what the source had left
line_given : GivesLine (record { ahead = codes "en"; given = 3 }) (record { ahead = codes "x"; given = 7 })
    (Some (codes "d" ++ 10 ∷ codes "xy")) (Some (codes "y")) (codes "end")
line_given = record { short = lit< tt; whole = refl; taken = refl; given = refl; limit = lit≤ tt }
