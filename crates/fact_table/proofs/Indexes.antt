-- An index to which a fact is added is that of one more fact.
use Rattle.std.proofs.Common.{◌≡◌, ℕ, zero, suc, ◌-◌, ◌<◌, cond, List, [], ◌∷◌, ◌++◌, length, map, replicate, Option, Some, None, refl, ap, sym, ◌∙◌, arith, length-append}
use Rattle.std.proofs.lemmas.List.{map-append}
use Rattle.std.proofs.Math.ListN.{length-set}
use Rattle.std.specs.Map.{lookup}
use Rattle.thr_base.specs.declared.names.Fact.{Fact}
use Rattle.thr_base.specs.declared.names.FactId.{FactId}
use Rattle.fact_table.specs.declared.index.Index.{Index}
use Rattle.fact_table.specs.declared.live_fact.LiveFact.{LiveFact}
use Rattle.fact_table.specs.Table.{HasHome}
use Rattle.fact_table.specs.inside.FactIds.{key_of, id_in, is_key}
use Rattle.fact_table.specs.inside.HomeIds.{HomeIds, with_id}
use Rattle.fact_table.specs.inside.Index.{Adds, AreRooms, HasRoom, IsAsLarge, IsIndexOf, id_of, ids_by_home}
use Rattle.fact_table.proofs.Found.{id_of-push, lists_from-nothing, lists_from-push}

length-map_ids : (live : List LiveFact) → length (map (λ f. f.id) live) ≡ length live
length-map_ids [] = refl
length-map_ids (f ∷ live) = ap (λ n. suc n) (length-map_ids live)

pub IsIndexOf-room : (live : List LiveFact) (index : Index) → IsIndexOf live index → length live < index.by_fact.room → HasRoom index
IsIndexOf-room live index is few =
    let ids : length index.ids.items ≡ length live = ap length is.ids ∙ length-map_ids live in
    record {
      ids = omega (arith, ids, is.rooms.ids);
      by_fact = omega (arith, is.fact_count);
      by_home = omega (arith, is.home_count, is.rooms.by_home);
    }

pub IsIndexOf-absent : (live : List LiveFact) (index : Index) (fact : Fact) → IsIndexOf live index → id_of live (key_of fact) ≡ None → id_in index.by_fact (key_of fact) ≡ None
IsIndexOf-absent live index fact is none = is.fact_ids (key_of fact) ∙ none

pub IsAsLarge-add : (old new : Index) (f : LiveFact) → Adds old f.id f.fact new → HasHome (length old.by_home.lists) f.fact.home.0 → IsAsLarge new old
IsAsLarge-add old new f adds there =
    let lists = ap (λ (seen : HomeIds). length seen.lists) adds.by_home in
    record { room = adds.by_fact.room; homes = lists ∙ length-set {A = List FactId} _ _ _ }

pub IsIndexOf-add : (live : List LiveFact) (old new : Index) (f : LiveFact) → IsIndexOf live old → Adds old f.id f.fact new → HasHome (length old.by_home.lists) f.fact.home.0
    → IsIndexOf (live ++ f ∷ []) new
IsIndexOf-add live old new f is adds there =
    let large = IsAsLarge-add old new f adds there in
    let home_room = ap (λ (seen : HomeIds). seen.room) adds.by_home in
    let home_count = ap (λ (seen : HomeIds). seen.count) adds.by_home in
    let home_lists = ap (λ (seen : HomeIds). seen.lists) adds.by_home in
    let longer = length-append live (f ∷ []) in
    record {
      rooms = record { ids = omega (arith, large.room, is.rooms.ids, adds.ids_room); by_home = omega (arith, large.room, is.rooms.by_home, home_room) };
      ids = adds.ids ∙ (ap (λ (xs : List FactId). xs ++ f.id ∷ []) is.ids ∙ sym (map-append (λ (g : LiveFact). g.id) live (f ∷ [])));
      fact_count = omega (arith, adds.by_fact.count, is.fact_count, longer);
      fact_ids = λ key. adds.by_fact.found key ∙ (ap (λ (o : Option FactId). cond (is_key (key_of f.fact) key) (Some f.id) o) (is.fact_ids key) ∙ sym (id_of-push live f key));
      home_count = omega (arith, home_count, is.home_count, longer);
      home_ids = home_lists
          ∙ (ap (λ (lists : List (List FactId)). with_id lists (f.fact.home.0 - 1) f.id) is.home_ids
          ∙ (sym (lists_from-push 1 (length old.by_home.lists) (f.fact.home.0 - 1) live f (omega (arith, there)) (omega (arith, there)))
          ∙ ap (λ n. ids_by_home n (live ++ f ∷ [])) (sym large.homes)));
    }

length-nothings : (n : ℕ) → length (replicate {A = List FactId} n []) ≡ n
length-nothings zero = refl
length-nothings (suc n) = ap (λ m. suc m) (length-nothings n)

-- an index that finds nothing
pub IsIndexOf-nothing : (index : Index) (n : ℕ) → AreRooms index → index.ids.items ≡ [] → index.by_fact.entries ≡ [] → index.by_home.count ≡ 0
    → index.by_home.lists ≡ replicate n [] → IsIndexOf [] index
IsIndexOf-nothing index n rooms ids entries count lists = record {
  rooms = rooms;
  ids = ids;
  fact_count = ap length entries;
  fact_ids = λ key. ap (λ (es : List ((ℕ × ℕ) × FactId)). lookup (is_key key) es) entries;
  home_count = count;
  home_ids = lists ∙ (ap (λ m. replicate m []) (sym (ap length lists ∙ length-nothings n)) ∙ sym (lists_from-nothing 1 (length index.by_home.lists)));
}
