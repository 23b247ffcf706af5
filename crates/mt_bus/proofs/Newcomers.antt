-- What a system keeps where a processor comes up or goes, with its table of types.
use Rattle.std.proofs.Common.{◌≡◌, ap, sym, refl, subst, arith, ℕ, zero, suc, ◌<◌, Bool, true, false, if◌then◌else◌, List, [], ◌∷◌, ◌++◌, length, length-append, take, Option, None, Some, slice_get}
use Rattle.std.specs.Option.{option_map, option_map_or}
use Rattle.mt_types.specs.Tables.{IsTableOf, TypeTable}
use Rattle.mt_machine.specs.System.{IsSound, Processor, System, is_writing}
use Rattle.mt_machine.specs.Bus.{drain}
use Rattle.mt_machine.specs.ComingAndGoing.{gone, last_number, newcomer_beside, reset}
use Rattle.mt_laws.proofs.Invariant.Coming.{reset_stays_sound}
use Rattle.mt_laws.proofs.Invariant.Going.{gone_stays_sound}
use Rattle.mt_laws.specs.Parts.{system}
use Rattle.mt_bus.specs.Tables.{AreTablesOf}
use Rattle.mt_bus.proofs.Tables.{tables_drained}

abbrev Has : Processor → TypeTable → Type 0
Has p t = is_writing p.phase ≡ None → IsTableOf p.file t

-- ---- one more

each_more : (ps : List Processor) (ts : List TypeTable) (q : Processor) (t : TypeTable) → length ts ≡ length ps
    → ((k : ℕ) (p : Processor) (x : TypeTable) → slice_get ps k ≡ Some p → slice_get ts k ≡ Some x → Has p x) → Has q t
    → (k : ℕ) (p : Processor) (x : TypeTable) → slice_get (ps ++ q ∷ []) k ≡ Some p → slice_get (ts ++ t ∷ []) k ≡ Some x → Has p x
each_more [] [] q t same old own zero p x at there =
    let e : q ≡ p = cc in
    let f : t ≡ x = cc in
    subst (λ (v : Processor). Has v x) e (subst (Has q) f own)
each_more [] [] q t same old own (suc k) p x at there = absurd (cc)
each_more [] (y ∷ ts) q t same old own k p x at there = absurd (omega arith)
each_more (r ∷ ps) [] q t same old own k p x at there = absurd (omega arith)
each_more (r ∷ ps) (y ∷ ts) q t same old own zero p x at there = old 0 p x at there
each_more (r ∷ ps) (y ∷ ts) q t same old own (suc k) p x at there = each_more ps ts q t (omega arith) (λ j. old (suc j)) own k p x at there

tables_more : (ps : List Processor) (ts : List TypeTable) (q : Processor) (t : TypeTable) → AreTablesOf ps ts → IsTableOf q.file t → AreTablesOf (ps ++ q ∷ []) (ts ++ t ∷ [])
tables_more ps ts q t h own = record {
  count = (let a = length-append ps (q ∷ []) in let b = length-append ts (t ∷ []) in let c = h.count in omega arith);
  each = each_more ps ts q t h.count h.each (λ _. own);
}

-- the newcomer beside the first is the one that comes up
pub come_is : (s : System) (q : Processor) → option_map newcomer_beside (slice_get s.processors 0) ≡ Some q → reset s ≡ system (s.processors ++ q ∷ []) s.memory
come_is s q = one (slice_get s.processors 0)
  where
    one : (o : Option Processor) → option_map newcomer_beside o ≡ Some q → option_map_or (λ p. record s { processors = s.processors ++ newcomer_beside p ∷ [] }) o s ≡ system (s.processors ++ q ∷ []) s.memory
    one None is = absurd (cc)
    one (Some p) is = let e : newcomer_beside p ≡ q = cc in ap (λ (r : Processor). system (s.processors ++ r ∷ []) s.memory) e

-- both lists grow, or neither
pub come_keeps : (s : System) (ts : List TypeTable) (q : Processor) (t : TypeTable) → IsSound s → AreTablesOf s.processors ts
    → option_map newcomer_beside (slice_get s.processors 0) ≡ Some q → IsTableOf q.file t → (b : Bool) (u : System) (us : List TypeTable)
    → u ≡ (if b then system (s.processors ++ q ∷ []) s.memory else s) → us ≡ (if b then ts ++ t ∷ [] else ts) → IsSound u × AreTablesOf u.processors us
come_keeps s ts q t sound tables is own b u us come added =
    subst (λ (v : System × List TypeTable). IsSound v.0 × AreTablesOf v.0.processors v.1) (λ i. (sym come i, sym added i)) (one b)
  where
    one : (b : Bool) → IsSound (if b then system (s.processors ++ q ∷ []) s.memory else s) × AreTablesOf (if b then system (s.processors ++ q ∷ []) s.memory else s).processors (if b then ts ++ t ∷ [] else ts)
    one true = (subst IsSound (come_is s q is) (reset_stays_sound s sound), tables_more s.processors ts q t tables own)
    one false = (sound, tables)

-- ---- the last one less

pub get_front : {X : Type 0} → (xs : List X) (k i : ℕ) (x : X) → slice_get (take k xs) i ≡ Some x → slice_get xs i ≡ Some x
get_front [] zero i x at = absurd (cc)
get_front [] (suc k) i x at = absurd (cc)
get_front (y ∷ xs) zero i x at = absurd (cc)
get_front (y ∷ xs) (suc k) zero x at = at
get_front (y ∷ xs) (suc k) (suc i) x at = get_front xs k i x at

count_front : (ps : List Processor) (ts : List TypeTable) (k : ℕ) → length ts ≡ length ps → length (take k ts) ≡ length (take k ps)
count_front [] [] zero same = refl
count_front [] [] (suc k) same = refl
count_front [] (t ∷ ts) k same = absurd (omega arith)
count_front (p ∷ ps) [] k same = absurd (omega arith)
count_front (p ∷ ps) (t ∷ ts) zero same = refl
count_front (p ∷ ps) (t ∷ ts) (suc k) same = ap suc (count_front ps ts k (omega arith))

tables_front : (ps : List Processor) (ts : List TypeTable) (k : ℕ) → AreTablesOf ps ts → AreTablesOf (take k ps) (take k ts)
tables_front ps ts k h = record {
  count = count_front ps ts k h.count;
  each = λ i p t at there. h.each i p t (get_front ps k i p at) (get_front ts k i t there);
}

pub go_keeps : (s : System) (ts : List TypeTable) → 0 < length s.processors → IsSound s → AreTablesOf s.processors ts
    → IsSound (gone s) × AreTablesOf (gone s).processors (take (last_number s) ts)
go_keeps s ts some sound tables =
    (gone_stays_sound s some sound, tables_front (drain (last_number s) s).processors ts (last_number s) (tables_drained (last_number s) s ts tables))
