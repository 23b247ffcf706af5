-- Longest runs of pages that lose a type are the parts.
use Rattle.std.proofs.Common.{◌≡◌, ◌≢◌, ℕ, suc, ◌<◌, ◌≤◌, List, [], ◌∷◌, Some, refl, sym, ap, ◌∙◌, inl, inr, arith}
use Rattle.std.specs.List.{AllByRecursion}
use Rattle.std.proofs.lemmas.Bool.{cases_lt}
use Rattle.mt_kinds.specs.declared.mem_type.MemType.{MemType}
use Rattle.mt_regs.specs.declared.page_type.PageType.{PageType}
use Rattle.mt_regs.specs.declared.page_type.PageType.TheVariants.{Kind}
use Rattle.mt_types.specs.declared.run.Run.{Run}
use Rattle.mt_types.specs.Runs.{run_end}
use Rattle.mt_gran.specs.Granules.{TypedPages}
use Rattle.mt_gran.specs.Marks.{AreRunsOf, HaveMark, lost_mark}
use Rattle.mt_gran.specs.Parts.{ArePartsOf, Ascend, IsInSome, IsLostRun}
use Rattle.mt_gran.proofs.RunsOf.{ends_later}
use Rattle.mt_gran.proofs.Counts.{lost_by, loses_by, mark_of, no_mark, not_marked, same_mark}

module _ (m : TypedPages) (g : ℕ) (types : (page : ℕ) → page < m.count → (t : MemType) × (m.kind page ≡ Kind t)) where
  -- the page before doesn't have the mark of the first of the runs
  abbrev BeginsAfter : ℕ → List Run → Type 0
  BeginsAfter from [] = Unit {0}
  BeginsAfter from (r ∷ rs) = (page : ℕ) → suc page ≡ from → r.first ≡ from → lost_mark m g page ≢ Some r.kind

  behind : (r : Run) (to : ℕ) (rs : List Run) → AreRunsOf (lost_mark m g) (run_end r) to rs → (next : run_end r < to)
      → ((s : Run) (ss : List Run) → rs ≡ s ∷ ss → run_end r ≡ s.first → r.kind ≢ s.kind) → lost_mark m g (run_end r) ≢ Some r.kind
  behind r to [] are next apart is = no_mark r.kind (lost_mark m g (run_end r)) (are.1 (run_end r) (omega arith) next) is
  behind r to (s ∷ ss) are next apart is = elim (cases_lt (run_end r) s.first) [
    | inl gap ↦ no_mark r.kind (lost_mark m g (run_end r)) (are.1 (run_end r) (omega arith) gap) is
    | inr past ↦
        let meets : run_end r ≡ s.first = omega (arith, are.0, past) in
        apart s ss refl meets (same_mark r.kind s.kind (sym is ∙ are.3 (run_end r) past (omega (arith, meets, are.2))))
  ]

  ends_before : (r : Run) (rs : List Run) → (from to : ℕ) → AreRunsOf (lost_mark m g) from to (r ∷ rs) → (s : Run) (ss : List Run) → rs ≡ s ∷ ss → run_end r ≡ s.first → r.kind ≢ s.kind
  ends_before r [] from to are s ss is = absurd (cc)
  ends_before r (q ∷ qs) from to are s ss is =
      let same : q ≡ s = first_of q s qs ss is in
      λ meets kinds. are.4 (meets ∙ ap (λ (x : Run). x.first) (sym same)) (kinds ∙ ap (λ (x : Run). x.kind) (sym same))
    where
      first_of : (a b : Run) (later others : List Run) → a ∷ later ≡ b ∷ others → a ≡ b
      first_of a b later others e = cc

  each : (from : ℕ) (rs : List Run) → AreRunsOf (lost_mark m g) from m.count rs → BeginsAfter from rs → AllByRecursion (IsLostRun m g) rs
  each from [] are after = tt
  each from (r ∷ rs) are after =
      let later = ends_later (lost_mark m g) (run_end r) m.count rs are.5 in
      let first = lost_by m g r.first r.kind (are.3 r.first (omega arith) (omega (arith, are.2))) in
      let type = types r.first (omega (arith, later, are.2)) in
      let kind : r.kind ≡ Kind type.0 = sym first.kind ∙ type.1 in
      let mark : Some r.kind ≡ Some (Kind type.0) = ap (λ (k : PageType). Some k) kind in (
        record {
          type = type.0;
          kind = kind;
          some = are.2;
          within = later;
          pages = λ page has. loses_by m g type.0 page (are.3 page has.0 has.1 ∙ mark);
          before = λ page one. not_marked m g type.0 page (λ is. elim (cases_lt from r.first) [
            | inl gap ↦ no_mark (Kind type.0) (lost_mark m g page) (are.1 page (omega (arith, one, gap)) (omega (arith, one))) is
            | inr level ↦ after page (omega (arith, one, level, are.0)) (omega (arith, level, are.0)) (is ∙ sym mark)
          ]);
          behind = λ next. not_marked m g type.0 (run_end r) (λ is. behind r m.count rs are.5 next (ends_before r rs from m.count are) (is ∙ sym mark));
        },
        each (run_end r) rs are.5 (begins r rs (ends_before r rs from m.count are) are.2 are.3),
      )
    where
      begins : (r : Run) (rs : List Run) → ((s : Run) (ss : List Run) → rs ≡ s ∷ ss → run_end r ≡ s.first → r.kind ≢ s.kind) → 0 < r.count
          → HaveMark (lost_mark m g) r.first (run_end r) (Some r.kind) → BeginsAfter (run_end r) rs
      begins r [] apart some have = tt
      begins r (s ∷ ss) apart some have = λ page one meets is.
          apart s ss refl (sym meets) (same_mark r.kind s.kind (sym (have page (omega (arith, one, some)) (omega (arith, one))) ∙ is))

  in_order : (from to : ℕ) (rs : List Run) → AreRunsOf (lost_mark m g) from to rs → Ascend from rs
  in_order from to [] are = tt
  in_order from to (r ∷ rs) are = (are.0, in_order (run_end r) to rs are.5)

  found : (from to : ℕ) (rs : List Run) (page : ℕ) (k : PageType) → AreRunsOf (lost_mark m g) from to rs → from ≤ page → page < to → lost_mark m g page ≡ Some k → IsInSome page rs
  found from to [] page k are low high is = no_mark k (lost_mark m g page) (are.1 page low high) is
  found from to (r ∷ rs) page k are low high is = elim (cases_lt page r.first) [
    | inl gap ↦ absurd (no_mark k (lost_mark m g page) (are.1 page low gap) is)
    | inr above ↦ elim (cases_lt page (run_end r)) [
      | inl inner ↦ inl (above, inner)
      | inr past ↦ inr (found (run_end r) to rs page k are.5 past high is)
    ]
  ]

  all_parts : (rs : List Run) → AreRunsOf (lost_mark m g) 0 m.count rs → ArePartsOf m g rs
  all_parts rs are = record {
    each = each 0 rs are (start rs);
    in_order = in_order 0 m.count rs are;
    all = λ page below t lost. found 0 m.count rs page (Kind t) are (omega arith) below (mark_of m g t page lost);
  }
    where
      start : (rs : List Run) → BeginsAfter 0 rs
      start [] = tt
      start (r ∷ rs) = λ page one. absurd (omega (arith, one))

pub parts_of : (m : TypedPages) (g : ℕ) → ((page : ℕ) → page < m.count → (t : MemType) × (m.kind page ≡ Kind t)) → (rs : List Run) → AreRunsOf (lost_mark m g) 0 m.count rs → ArePartsOf m g rs
parts_of = all_parts
