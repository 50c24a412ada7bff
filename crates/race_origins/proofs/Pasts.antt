-- One more entry, and what the definitions make of it.
use Rattle.std.proofs.Common.{◌≡◌, ℕ, ◌+◌, ◌<◌, List, [], ◌∷◌, ◌++◌, length, take, get_or, map, reverse, ◌∙◌, ap, sym, Option, append_assoc}
use Rattle.std.proofs.lemmas.List.{map_more, reverse-append, take_more}
use Rattle.std.proofs.lemmas.List.Elements.{filter_map-append}
use Rattle.fut_base.specs.declared.record.Entry.{Entry}
use Rattle.fut_base.specs.declared.event.Event.{Event}
use Rattle.fut_base.specs.Events.{event_of}
use Rattle.fut_base.specs.Dag.{joins, last_of}
use Rattle.race_origins.specs.Edges.{past_of, join_from}

pub past_more : (entries : List Entry) (i : ℕ) (d : Entry) → i < length entries
    → past_of (take (i + 1) entries) ≡ event_of (get_or entries i d) ∷ past_of (take i entries)
past_more entries i d h =
    ap reverse (map_more event_of entries i d h) ∙ reverse-append (map event_of (take i entries)) (event_of (get_or entries i d) ∷ [])

joins_more : (past : List Event) (tasks : List ℕ) (i to : ℕ) → i < length tasks
    → joins past (take (i + 1) tasks) to ≡ joins past (take i tasks) to ++ join_from (last_of past (get_or tasks i 0)) to
joins_more past tasks i to h =
    ap (λ ts. joins past ts to) (take_more tasks i 0 h) ∙ filter_map-append _ (take i tasks) (get_or tasks i 0 ∷ [])

-- the joins so far, and those of one more task
pub joined_more : (past : List Event) (tasks : List ℕ) (i to : ℕ) (last : Option ℕ) (old now new : List (ℕ × ℕ)) → i < length tasks
    → last ≡ last_of past (get_or tasks i 0) → now ≡ old ++ joins past (take i tasks) to → new ≡ now ++ join_from last to
    → new ≡ old ++ joins past (take (i + 1) tasks) to
joined_more past tasks i to last old now new h is inv step =
    step
    ∙
    (ap (λ (l : List (ℕ × ℕ)). l ++ join_from last to) inv
    ∙
    (append_assoc old (joins past (take i tasks) to) (join_from last to)
    ∙ ap (λ l. old ++ l) (ap (λ o. joins past (take i tasks) to ++ join_from o to) is ∙ sym (joins_more past tasks i to h))))
