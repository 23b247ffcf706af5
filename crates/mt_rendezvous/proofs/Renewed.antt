-- What is left of an update has its tables of types, and each line of its caches is one that they may have.
use Rattle.std.proofs.Common.{◌≡◌, ◌∙◌, ap, sym, refl, subst, ℕ, zero, suc, Bool, true, false, List, [], ◌∷◌, map, Some}
use Rattle.std.specs.Prelude.{slice_get}
use Rattle.std.specs.List.{All}
use Rattle.std.proofs.lemmas.List.{length-map}
use Rattle.mt_regs.specs.RegisterFile.{RegisterFile}
use Rattle.mt_types.specs.Tables.{IsTableOf, TypeTable}
use Rattle.mt_machine.specs.declared.phase.Phase.TheVariants.{Taken}
use Rattle.mt_machine.specs.System.{Processor, System, is_writing}
use Rattle.mt_machine.specs.Update.{settled_processor}
use Rattle.mt_laws.proofs.Barrier.Claims.{all_get}
use Rattle.mt_bus.specs.Holders.{AreHeldBy, all_may}
use Rattle.mt_bus.specs.Tables.{AreTablesOf}
use Rattle.mt_rendezvous.specs.Update.{left_by, running, tables_left}

map_at : {X Y : Type 0} (f : X → Y) (xs : List X) (k : ℕ) (y : Y) → slice_get (map f xs) k ≡ Some y → (x : X) × (slice_get xs k ≡ Some x) × (f x ≡ y)
map_at f [] k y at = absurd (cc)
map_at f (x ∷ xs) zero y at = (x, refl, cc)
map_at f (x ∷ xs) (suc k) y at = map_at f xs k y at

pub tables_are_left : (given : Bool) (s : System) (goal : RegisterFile) (kinds : TypeTable) (ts : List TypeTable) → IsTableOf goal kinds → All (λ p. p.phase ≡ Taken) s.processors
    → AreTablesOf s.processors ts → AreTablesOf (left_by given s goal).processors (tables_left given kinds ts)
tables_are_left true s goal kinds ts new taken h = record {
  count = length-map ts (λ t. kinds) ∙ h.count ∙ sym (length-map s.processors (settled_processor goal));
  each = λ k p t at there rests.
      let old = map_at (settled_processor goal) s.processors k p at in
      let table = map_at (λ (x : TypeTable). kinds) ts k t there in
      subst (IsTableOf p.file) table.2 (subst (λ (q : Processor). IsTableOf q.file kinds) old.2 new);
}
tables_are_left false s goal kinds ts new taken h = record {
  count = h.count ∙ sym (length-map s.processors running);
  each = λ k p t at there rests.
      let old = map_at running s.processors k p at in
      let was = ap is_writing (all_get (λ q. q.phase ≡ Taken) s.processors taken k old.0 old.1) in
      subst (λ (q : Processor). IsTableOf q.file t) old.2 (h.each k old.0 t old.1 there was);
}

-- no cache has a line that it did not have
pub held_is_left : (given : Bool) (s : System) (goal : RegisterFile) (masks : List ℕ) → AreHeldBy s.processors masks → AreHeldBy (left_by given s goal).processors masks
held_is_left true s goal masks h = record {
  each = λ k p at.
      let old = map_at (settled_processor goal) s.processors k p at in
      subst (λ (q : Processor). all_may masks k q.lines ≡ true) old.2 refl;
}
held_is_left false s goal masks h = record {
  each = λ k p at.
      let old = map_at running s.processors k p at in
      subst (λ (q : Processor). all_may masks k q.lines ≡ true) old.2 (h.each k old.0 old.1);
}
