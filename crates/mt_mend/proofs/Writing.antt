-- Writes on the way from one file to another.
use Rattle.std.proofs.Common.{◌≡◌, ◌≢◌, ◌∙◌, ℕ, ◌+◌, ◌-◌, ◌*◌, ◌/◌, ◌%◌, ◌^◌, ◌<◌, ◌≤◌, ◌⊎◌, ◌==◌, true, false, List, [], ◌∷◌, ◌++◌, length, Option, Some, None, refl, sym, ap, subst, inl, inr, arith}
use Rattle.std.specs.Prelude.{if◌then◌else◌, Result, Ok, Err, MatchResult}
use Rattle.std.specs.List.{find}
use Rattle.std.specs.Option.{option_map}
use Rattle.std.proofs.lemmas.Bool.{cases_Bool, cases_lt, eqb-true}
use Rattle.std.proofs.lemmas.Bool.Decides.{nat_tests}
use Rattle.std.proofs.lemmas.List.Elements.{All-push}
use Rattle.mt_kinds.specs.Bits.{is_bit_set}
use Rattle.mt_ranges.specs.Match.{is_valid}
use Rattle.mt_regs.specs.declared.registers.Register.{Register}
use Rattle.mt_regs.specs.declared.registers.Register.TheVariants.{PhysBase, PhysMask, Pat, DefaultType}
use Rattle.mt_regs.specs.RegisterFile.{IsRegisterFile, RegisterFile, is_enabled, low_byte, pair_at}
use Rattle.mt_regs.specs.Registers.{ChangesOnly, fixed_registers, number_of, pair_registers, register_of, value_at, value_of, with_value, written}
use Rattle.mt_regs.specs.StartFiles.{SameKind}
use Rattle.mt_regs.proofs.ByNumber.{is_file-written, register_of-range, same_file, value_at-number_of}
use Rattle.mt_regs.proofs.Writes.{changes_only}
use Rattle.mt_mend.specs.declared.write.Write.{Write}
use Rattle.mt_mend.specs.Courses.{Course, HasRegister, IsCopied, IsOnWay, IsSwitchedOff, IsTowards, IsWritten}
use Rattle.mt_mend.specs.Writes.{AreNamed, AreWrites, IsNamed, MayBeWritten}

-- ---- values of files of one kind

some_is : {A : Type 0} (a b : A) → Some a ≡ Some b → a ≡ b
some_is a b e = cc

not_capabilities : (number : ℕ) → 0x200 ≤ number → (number == 0xfe) ≡ false
not_capabilities number high = grind (arith, nat_tests, high)

-- a register with a value is one that the file has
pub has_register : (f : RegisterFile) (number v : ℕ) → 0x200 ≤ number → value_at f number ≡ Some v → HasRegister f number
has_register f number v high is = by (register_of f number) refl (rw (not_capabilities number high) at is)
  where
    by : (o : Option Register) → register_of f number ≡ o → option_map (value_of f) (register_of f number) ≡ Some v → HasRegister f number
    by None none some = absurd (cc (sym (ap (option_map (value_of f)) none) ∙ some))
    by (Some r) is_r some = (r, is_r)

same_registers : (f g : RegisterFile) → SameKind f g → (number : ℕ) → register_of f number ≡ register_of g number
same_registers f g same number =
    ap (λ c. find (λ r. number_of r == number) (pair_registers 0 (low_byte c) ++ (if is_bit_set c 8 then fixed_registers else []) ++ Pat ∷ DefaultType ∷ [])) same.capabilities

-- files of one kind have no value at the same numbers
pub both_none : (f g : RegisterFile) → SameKind f g → (number : ℕ) → 0x200 ≤ number → value_at g number ≡ None → value_at f number ≡ None
both_none f g same number high none =
    let apart = not_capabilities number high in
    rw apart (by (register_of g number) refl (rw apart at none))
  where
    by : (o : Option Register) → register_of g number ≡ o → option_map (value_of g) (register_of g number) ≡ None → option_map (value_of f) (register_of f number) ≡ None
    by None is none = ap (option_map (value_of f)) (same_registers f g same number ∙ is)
    by (Some r) is none = absurd (cc (sym (ap (option_map (value_of g)) is) ∙ none))

-- no register has a number below the first or behind the last
outside : (f : RegisterFile) → IsRegisterFile f → (number : ℕ) → (number < 0x200) ⊎ (0x300 ≤ number) → register_of f number ≡ None
outside f is number out = by (register_of f number) refl
  where
    far : 0x200 ≤ number → number < 0x300 → (number < 0x200) ⊎ (0x300 ≤ number) → ⊥
    far low high (inl below) = omega (arith, below, low)
    far low high (inr above) = omega (arith, above, high)

    by : (o : Option Register) → register_of f number ≡ o → register_of f number ≡ None
    by None none = none
    by (Some r) some = let range = register_of-range f number r is some in absurd (far range.0 range.1 out)

agree_outside : (f g : RegisterFile) → IsRegisterFile f → IsRegisterFile g → SameKind f g → (number : ℕ) → (number < 0x200) ⊎ (0x300 ≤ number) → value_at f number ≡ value_at g number
agree_outside f g is is_too same number out = elim (cases_Bool (number == 0xfe)) [
  | inl capabilities ↦ rw capabilities (ap Some same.capabilities)
  | inr register ↦ rw (register, outside f is number out, outside g is_too number out) refl
]

-- a register that the file has can be written
pub known_set : {A B : Type 0} (f new : RegisterFile) (number v : ℕ) → HasRegister f number → (result : Result A B)
    → MatchResult result (λ _. written f number v ≡ Some new) (λ _. (written f number v ≡ None) × (new ≡ f)) → written f number v ≡ Some new
known_set f new number v known (Ok a) is = is
known_set f new number v known (Err b) is = absurd (cc (sym (ap (option_map (λ r. with_value f r v)) known.1) ∙ is.0))

-- ---- switches

module _ (f : RegisterFile) (is : IsRegisterFile f) where
  default_value : value_at f 0x2ff ≡ Some f.default_type
  default_value = value_at-number_of f DefaultType is tt

  base_value : (n : ℕ) → n < length f.pairs → value_at f (0x200 + 2 * n) ≡ Some (pair_at f.pairs n).0
  base_value n within = value_at-number_of f (PhysBase n) is within

  mask_value : (n : ℕ) → n < length f.pairs → value_at f (0x201 + 2 * n) ≡ Some (pair_at f.pairs n).1
  mask_value n within = value_at-number_of f (PhysMask n) is within

  -- E and V by the values of their registers
  enabled_is : (v : ℕ) → value_at f 0x2ff ≡ Some v → is_enabled f ≡ is_bit_set v 11
  enabled_is v at = ap (λ w. is_bit_set w 11) (some_is _ _ (sym default_value ∙ at))

  valid_is : (n v : ℕ) → n < length f.pairs → value_at f (0x201 + 2 * n) ≡ Some v → is_valid (pair_at f.pairs n) ≡ is_bit_set v 11
  valid_is n v within at = ap (λ w. is_bit_set w 11) (some_is _ _ (sym (mask_value n within) ∙ at))

set_high : (v : ℕ) → is_bit_set v 11 ≡ true → v / 2048 % 2 ≡ 1
set_high v set = eqb-true _ _ set

cleared : (v : ℕ) → is_bit_set v 11 ≡ true → is_bit_set (v - 2 ^ 11) 11 ≡ false
cleared v set =
    let e = set_high v set in
    let z : (v - 2048) / 2048 % 2 ≡ 0 = omega (arith, e) in
    ap (λ x. x == 1) z

restored : (v : ℕ) → is_bit_set v 11 ≡ true → v - 2 ^ 11 + 2 ^ 11 ≡ v
restored v set = let e = set_high v set in let z : v - 2048 + 2048 ≡ v = omega (arith, e) in z

-- ---- one write more

writes_push : (old now new : RegisterFile) (ws : List Write) (w : Write) → AreWrites old ws now → MayBeWritten now w → written now w.number w.value ≡ Some new
    → AreWrites old (ws ++ w ∷ []) new
writes_push old now new [] w is may done = (new, subst (λ (f : RegisterFile). MayBeWritten f w) (sym is) may, ap (λ (f : RegisterFile). written f w.number w.value) is ∙ done, refl)
writes_push old now new (v ∷ vs) w is may done = (is.0, is.1, is.2, writes_push is.0 now new vs w is.3 may done)

module _ (old goal : RegisterFile) (before after : Course) (w : Write) (towards : IsTowards old goal before) (step : IsWritten before after w) where
  only : ChangesOnly before.file after.file w.number w.value
  only = changes_only before.file after.file w.number w.value towards.is_file step.file

  same_capabilities : w.number ≢ 0xfe → after.file.capabilities ≡ before.file.capabilities
  same_capabilities apart = let e : Some after.file.capabilities ≡ Some before.file.capabilities = only.others 0xfe (λ same. apart (sym same)) in some_is _ _ e

  pub towards_more : w.number ≢ 0xfe → MayBeWritten before.file w → IsNamed old goal w.number → IsTowards old goal after
  towards_more apart may names = record {
    old_file = towards.old_file;
    old_kind = towards.old_kind;
    is_file = is_file-written before.file after.file w.number w.value towards.is_file step.file;
    kind = record { width = only.width ∙ towards.kind.width; capabilities = same_capabilities apart ∙ towards.kind.capabilities };
    writes = subst (λ (ws : List Write). AreWrites old ws after.file) (sym step.writes) (writes_push old before.file after.file before.writes w towards.writes may step.file);
    named = subst (λ (ws : List Write). AreNamed old goal ws) (sym step.writes) (All-push (λ (v : Write). IsNamed old goal v.number) before.writes w towards.named names);
  }

  pub now_value : value_at after.file w.number ≡ Some w.value
  now_value = only.changed

  pub other_value : (m : ℕ) → m ≢ w.number → value_at after.file m ≡ value_at before.file m
  other_value m apart = only.others m apart

-- a write keeps the kind of a file
pub kind_written : (before after : Course) (w : Write) → IsRegisterFile before.file → 0x200 ≤ w.number → IsWritten before after w → SameKind after.file before.file
kind_written before after w is high step =
    let only = changes_only before.file after.file w.number w.value is step.file in
    let capabilities : Some after.file.capabilities ≡ Some before.file.capabilities = only.others 0xfe (λ same. absurd (omega (arith, same, high))) in
    record { width = only.width; capabilities = some_is _ _ capabilities }

pub kind_switched : (goal : RegisterFile) (before after : Course) (number : ℕ) → IsRegisterFile before.file → 0x200 ≤ number → SameKind before.file goal → IsSwitchedOff before after number → SameKind after.file goal
kind_switched goal before after number is high kind (inl (v, at, set, step)) =
    let same = kind_written before after _ is high step in
    record { width = same.width ∙ kind.width; capabilities = same.capabilities ∙ kind.capabilities }
kind_switched goal before after number is high kind (inr (same, clear)) = subst (λ (c : Course). SameKind c.file goal) (sym same) kind

pub kind_copied : (goal : RegisterFile) (before after : Course) (number : ℕ) → IsRegisterFile before.file → 0x200 ≤ number → SameKind before.file goal → IsCopied goal before after number → SameKind after.file goal
kind_copied goal before after number is high kind (inl (v, at, differs, step)) =
    let same = kind_written before after _ is high step in
    record { width = same.width ∙ kind.width; capabilities = same.capabilities ∙ kind.capabilities }
kind_copied goal before after number is high kind (inr (same, agree)) = subst (λ (c : Course). SameKind c.file goal) (sym same) kind

-- E stays as it is, if another register is written
still_disabled : (before after : RegisterFile) → IsRegisterFile before → IsRegisterFile after → value_at after 0x2ff ≡ value_at before 0x2ff → is_enabled before ≡ false → is_enabled after ≡ false
still_disabled before after is is_too same off = enabled_is after is_too before.default_type (same ∙ default_value before is) ∙ off

-- ---- which writes may be made

even_odd : (a b : ℕ) → 2 * a ≡ 2 * b + 1 → ⊥
even_odd a b e = omega (arith, e)

module _ (f : RegisterFile) (is : IsRegisterFile f) where
  few : length f.pairs ≤ 32
  few = omega (arith, is.all_pairs, is.few_pairs)

  pub may_default : (v : ℕ) → (is_enabled f ≡ false) ⊎ (v + 2 ^ 11 ≡ f.default_type) → MayBeWritten f (record { number = 0x2ff; value = v })
  may_default v switched = record {
    default = λ same. switched;
    others = λ apart. absurd (apart refl);
    base = λ n within same. absurd (omega (arith, same, within, few));
    mask = λ n within same. absurd (omega (arith, same, within, few));
  }

  pub may_mask : (n v : ℕ) → n < length f.pairs → is_enabled f ≡ false → (is_valid (pair_at f.pairs n) ≡ false) ⊎ (v + 2 ^ 11 ≡ (pair_at f.pairs n).1)
      → MayBeWritten f (record { number = 0x201 + 2 * n; value = v })
  may_mask n v inside off switched = record {
    default = λ same. inl off;
    others = λ apart. off;
    base = λ k within same. absurd (omega (arith, same));
    mask = λ k within same.
        let e : n ≡ k = omega (arith, same) in
        subst (λ j. (is_valid (pair_at f.pairs j) ≡ false) ⊎ (v + 2 ^ 11 ≡ (pair_at f.pairs j).1)) e switched;
  }

  pub may_base : (n v : ℕ) → n < length f.pairs → is_enabled f ≡ false → is_valid (pair_at f.pairs n) ≡ false → MayBeWritten f (record { number = 0x200 + 2 * n; value = v })
  may_base n v inside off invalid = record {
    default = λ same. inl off;
    others = λ apart. off;
    base = λ k within same.
        let e : n ≡ k = omega (arith, same) in
        subst (λ j. is_valid (pair_at f.pairs j) ≡ false) e invalid;
    mask = λ k within same. absurd (omega (arith, same));
  }

  pub may_other : (number v : ℕ) → 0x200 + 2 * length f.pairs ≤ number → is_enabled f ≡ false → MayBeWritten f (record { number = number; value = v })
  may_other number v past off = record {
    default = λ same. inl off;
    others = λ apart. off;
    base = λ k within same. absurd (omega (arith, same, within, past));
    mask = λ k within same. absurd (omega (arith, same, within, past));
  }

-- ---- from state to state

pub set_off : (old goal : RegisterFile) (before after : Course) → IsRegisterFile old → IsRegisterFile goal → SameKind old goal → old ≢ goal → before.file ≡ old → before.writes ≡ []
    → IsSwitchedOff before after 0x2ff → IsOnWay old goal after 0x200
set_off old goal before after is is_too kind apart begins none = λ step. by (subst (λ (c : Course). IsSwitchedOff c after 0x2ff) begin step)
  where
    start : Course
    start = record { file = old; writes = [] }

    begin : before ≡ start
    begin = λ i. record { file = begins i; writes = none i }

    at_start : IsTowards old goal start
    at_start = record { old_file = is; old_kind = kind; is_file = is; kind = kind; writes = refl; named = λ k d within. absurd (omega arith) }

    by : IsSwitchedOff start after 0x2ff → IsOnWay old goal after 0x200
    by (inl (v, at, set, step)) =
        let same : old.default_type ≡ v = some_is _ _ (sym (default_value old is) ∙ at) in
        let w : Write = record { number = 0x2ff; value = v - 2 ^ 11 } in
        let more = towards_more old goal start after w at_start step (λ e. absurd (omega (arith, e))) (may_default old is (v - 2 ^ 11) (inr (restored v set ∙ sym same))) (inr (inl (refl, apart))) in
        record {
          towards = more;
          disabled = enabled_is after.file more.is_file (v - 2 ^ 11) (now_value old goal start after w at_start step) ∙ cleared v set;
          done = λ m low. agree_outside after.file goal more.is_file is_too more.kind m (inl low);
          left = λ m from other. other_value old goal start after w at_start step m other;
        }
    by (inr (same, clear)) =
        let P : Course → Type 0 = λ c. IsOnWay old goal c 0x200 in
        subst P (sym same) (record {
          towards = at_start;
          disabled = clear old.default_type (default_value old is);
          done = λ m low. agree_outside old goal is is_too kind m (inl low);
          left = λ m from other. refl;
        })

pairs_of : (f goal : RegisterFile) → IsRegisterFile f → IsRegisterFile goal → SameKind f goal → length f.pairs ≡ length goal.pairs
pairs_of f goal is is_too kind = is.all_pairs ∙ ap low_byte kind.capabilities ∙ sym is_too.all_pairs

-- a register that is no pair's
pub copied_other : (old goal : RegisterFile) (before after : Course) (number : ℕ) → 0x200 + 2 * length goal.pairs ≤ number → number < 0x2ff → IsRegisterFile goal
    → IsOnWay old goal before number → IsCopied goal before after number → IsOnWay old goal after (number + 1)
copied_other old goal before after number past below is_too way (inl (v, goal_at, differs, step)) =
    let w : Write = record { number = number; value = v } in
    let towards = way.towards in
    let other : number ≢ 0x2ff = λ e. absurd (omega (arith, e, below)) in
    let more = towards_more old goal before after w towards step (λ e. absurd (omega (arith, e, past)))
    (may_other before.file towards.is_file number v (omega (arith, past, pairs_of before.file goal towards.is_file is_too towards.kind)) way.disabled) (inl (λ same. differs (way.left number (omega arith) other ∙ same))) in
    record {
      towards = more;
      disabled = still_disabled before.file after.file towards.is_file more.is_file (other_value old goal before after w towards step 0x2ff (λ e. other (sym e))) way.disabled;
      done = λ m low. elim (cases_lt m number) [
        | inl lower ↦ other_value old goal before after w towards step m (λ e. absurd (omega (arith, e, lower))) ∙ way.done m lower
        | inr level ↦
            let same : number ≡ m = omega (arith, low, level) in
            subst (λ k. value_at after.file k ≡ value_at goal k) same (now_value old goal before after w towards step ∙ sym goal_at)
      ];
      left = λ m from apart. other_value old goal before after w towards step m (λ e. absurd (omega (arith, e, from))) ∙ way.left m (omega (arith, from)) apart;
    }
copied_other old goal before after number past below is_too way (inr (same, agree)) =
    let P : Course → Type 0 = λ c. IsOnWay old goal c (number + 1) in
    subst P (sym same) (record {
      towards = way.towards;
      disabled = way.disabled;
      done = λ m low. elim (cases_lt m number) [
        | inl lower ↦ way.done m lower
        | inr level ↦ let at : number ≡ m = omega (arith, low, level) in subst (λ k. value_at before.file k ≡ value_at goal k) at agree
      ];
      left = λ m from apart. way.left m (omega (arith, from)) apart;
    })

-- the default type is last, and then the file is the other one
pub record IsDone (old goal : RegisterFile) (now : Course) : Type 0 where
  pub writes : AreWrites old now.writes goal
  pub named : AreNamed old goal now.writes

ends_as : (old goal : RegisterFile) (now : Course) → IsRegisterFile goal → IsTowards old goal now → ((m : ℕ) → m < 0x300 → value_at now.file m ≡ value_at goal m) → IsDone old goal now
ends_as old goal now is_too towards all =
    let same : now.file ≡ goal = same_file now.file goal towards.is_file is_too
    (λ m. elim (cases_lt m 0x300) [ inl low ↦ all m low | inr past ↦ agree_outside now.file goal towards.is_file is_too towards.kind m (inr past) ]) towards.kind.width in
    record { writes = subst (λ (f : RegisterFile). AreWrites old now.writes f) same towards.writes; named = towards.named }

pub copied_last : (old goal : RegisterFile) (before after : Course) → IsRegisterFile goal → old ≢ goal → IsOnWay old goal before 0x2ff → IsCopied goal before after 0x2ff → IsDone old goal after
copied_last old goal before after is_too apart way (inl (v, goal_at, differs, step)) =
    let w : Write = record { number = 0x2ff; value = v } in
    let towards = way.towards in
    let more = towards_more old goal before after w towards step (λ e. absurd (omega (arith, e))) (may_default before.file towards.is_file v (inl way.disabled)) (inr (inl (refl, apart))) in
    ends_as old goal after is_too more (λ m low. elim (cases_lt m 0x2ff) [
      | inl lower ↦ other_value old goal before after w towards step m (λ e. absurd (omega (arith, e, lower))) ∙ way.done m lower
      | inr level ↦
          let same : 0x2ff ≡ m = omega (arith, low, level) in
          subst (λ k. value_at after.file k ≡ value_at goal k) same (now_value old goal before after w towards step ∙ sym goal_at)
    ])
copied_last old goal before after is_too apart way (inr (same, agree)) =
    let P : Course → Type 0 = λ c. IsDone old goal c in
    subst P (sym same) (ends_as old goal before is_too way.towards (λ m low. elim (cases_lt m 0x2ff) [
      | inl lower ↦ way.done m lower
      | inr level ↦ let at : 0x2ff ≡ m = omega (arith, low, level) in subst (λ k. value_at before.file k ≡ value_at goal k) at agree
    ]))

-- ---- a pair

-- within a pair: V is clear, or the pair's mask has its new value
record IsWithinPair (old goal : RegisterFile) (now : Course) (n : ℕ) : Type 0 where
  towards : IsTowards old goal now
  disabled : is_enabled now.file ≡ false
  invalid : is_valid (pair_at now.file.pairs n) ≡ false
  done : (m : ℕ) → m < 0x200 + 2 * n → value_at now.file m ≡ value_at goal m
  base : value_at now.file (0x200 + 2 * n) ≡ value_at old (0x200 + 2 * n)
  left : (m : ℕ) → 0x202 + 2 * n ≤ m → m ≢ 0x2ff → value_at now.file m ≡ value_at old m

-- the base has its new value, and V is still clear
record HasBase (old goal : RegisterFile) (now : Course) (n : ℕ) : Type 0 where
  towards : IsTowards old goal now
  disabled : is_enabled now.file ≡ false
  invalid : is_valid (pair_at now.file.pairs n) ≡ false
  done : (m : ℕ) → m < 0x201 + 2 * n → value_at now.file m ≡ value_at goal m
  left : (m : ℕ) → 0x202 + 2 * n ≤ m → m ≢ 0x2ff → value_at now.file m ≡ value_at old m

module _ (old goal : RegisterFile) (n : ℕ) (within : n < length goal.pairs) (is_too : IsRegisterFile goal) where
  here : (f : RegisterFile) → IsRegisterFile f → SameKind f goal → n < length f.pairs
  here f is kind = omega (arith, pairs_of f goal is is_too kind, within)

  not_last : 0x201 + 2 * n ≢ 0x2ff
  not_last e = omega (arith, e, within, is_too.all_pairs, is_too.few_pairs)

  not_last_base : 0x200 + 2 * n ≢ 0x2ff
  not_last_base e = omega (arith, e)

  -- V is cleared
  first_step : (before after : Course) → IsOnWay old goal before (0x200 + 2 * n) → pair_at old.pairs n ≢ pair_at goal.pairs n → IsSwitchedOff before after (0x201 + 2 * n)
      → IsWithinPair old goal after n
  first_step before after way apart (inl (v, at, set, step)) =
      let w : Write = record { number = 0x201 + 2 * n; value = v - 2 ^ 11 } in
      let towards = way.towards in
      let inside = here before.file towards.is_file towards.kind in
      let mask : (pair_at before.file.pairs n).1 ≡ v = some_is _ _ (sym (mask_value before.file towards.is_file n inside) ∙ at) in
      let more = towards_more old goal before after w towards step (λ e. absurd (omega (arith, e)))
      (may_mask before.file towards.is_file n (v - 2 ^ 11) inside way.disabled (inr (restored v set ∙ sym mask))) (inr (inr (n, refl, apart))) in
      record {
        towards = more;
        disabled = still_disabled before.file after.file towards.is_file more.is_file (other_value old goal before after w towards step 0x2ff (λ e. not_last (sym e))) way.disabled;
        invalid = valid_is after.file more.is_file n (v - 2 ^ 11) (here after.file more.is_file more.kind) (now_value old goal before after w towards step) ∙ cleared v set;
        done = λ m low. other_value old goal before after w towards step m (λ e. absurd (omega (arith, e, low))) ∙ way.done m low;
        base = other_value old goal before after w towards step (0x200 + 2 * n) (λ e. absurd (omega (arith, e))) ∙ way.left (0x200 + 2 * n) (omega arith) not_last_base;
        left = λ m from other. other_value old goal before after w towards step m (λ e. absurd (omega (arith, e, from))) ∙ way.left m (omega (arith, from)) other;
      }
  first_step before after way apart (inr (same, clear)) =
      let towards = way.towards in
      let inside = here before.file towards.is_file towards.kind in
      let P : Course → Type 0 = λ c. IsWithinPair old goal c n in
      subst P (sym same) (record {
        towards = towards;
        disabled = way.disabled;
        invalid = clear (pair_at before.file.pairs n).1 (mask_value before.file towards.is_file n inside);
        done = way.done;
        base = way.left (0x200 + 2 * n) (omega arith) not_last_base;
        left = λ m from other. way.left m (omega (arith, from)) other;
      })

  second_step : (before after : Course) → IsWithinPair old goal before n → IsCopied goal before after (0x200 + 2 * n) → HasBase old goal after n
  second_step before after way (inl (v, goal_at, differs, step)) =
      let w : Write = record { number = 0x200 + 2 * n; value = v } in
      let towards = way.towards in
      let inside = here before.file towards.is_file towards.kind in
      let more = towards_more old goal before after w towards step (λ e. absurd (omega (arith, e)))
      (may_base before.file towards.is_file n v inside way.disabled way.invalid) (inl (λ same. differs (way.base ∙ same))) in
      let mask : value_at after.file (0x201 + 2 * n) ≡ Some (pair_at before.file.pairs n).1 =
      other_value old goal before after w towards step (0x201 + 2 * n) (λ e. absurd (omega (arith, e))) ∙ mask_value before.file towards.is_file n inside in
      record {
        towards = more;
        disabled = still_disabled before.file after.file towards.is_file more.is_file (other_value old goal before after w towards step 0x2ff (λ e. not_last_base (sym e))) way.disabled;
        invalid = valid_is after.file more.is_file n (pair_at before.file.pairs n).1 (here after.file more.is_file more.kind) mask ∙ way.invalid;
        done = λ m low. elim (cases_lt m (0x200 + 2 * n)) [
          | inl lower ↦ other_value old goal before after w towards step m (λ e. absurd (omega (arith, e, lower))) ∙ way.done m lower
          | inr level ↦
              let same : 0x200 + 2 * n ≡ m = omega (arith, low, level) in
              subst (λ k. value_at after.file k ≡ value_at goal k) same (now_value old goal before after w towards step ∙ sym goal_at)
        ];
        left = λ m from other. other_value old goal before after w towards step m (λ e. absurd (omega (arith, e, from))) ∙ way.left m from other;
      }
  second_step before after way (inr (same, agree)) =
      let P : Course → Type 0 = λ c. HasBase old goal c n in
      subst P (sym same) (record {
        towards = way.towards;
        disabled = way.disabled;
        invalid = way.invalid;
        done = λ m low. elim (cases_lt m (0x200 + 2 * n)) [
          | inl lower ↦ way.done m lower
          | inr level ↦ let at : 0x200 + 2 * n ≡ m = omega (arith, low, level) in subst (λ k. value_at before.file k ≡ value_at goal k) at agree
        ];
        left = way.left;
      })

  third_step : (before after : Course) → pair_at old.pairs n ≢ pair_at goal.pairs n → HasBase old goal before n → IsCopied goal before after (0x201 + 2 * n) → IsOnWay old goal after (0x202 + 2 * n)
  third_step before after apart way (inl (v, goal_at, differs, step)) =
      let w : Write = record { number = 0x201 + 2 * n; value = v } in
      let towards = way.towards in
      let inside = here before.file towards.is_file towards.kind in
      let more = towards_more old goal before after w towards step (λ e. absurd (omega (arith, e)))
      (may_mask before.file towards.is_file n v inside way.disabled (inl way.invalid)) (inr (inr (n, refl, apart))) in
      record {
        towards = more;
        disabled = still_disabled before.file after.file towards.is_file more.is_file (other_value old goal before after w towards step 0x2ff (λ e. not_last (sym e))) way.disabled;
        done = λ m low. elim (cases_lt m (0x201 + 2 * n)) [
          | inl lower ↦ other_value old goal before after w towards step m (λ e. absurd (omega (arith, e, lower))) ∙ way.done m lower
          | inr level ↦
              let same : 0x201 + 2 * n ≡ m = omega (arith, low, level) in
              subst (λ k. value_at after.file k ≡ value_at goal k) same (now_value old goal before after w towards step ∙ sym goal_at)
        ];
        left = λ m from other. other_value old goal before after w towards step m (λ e. absurd (omega (arith, e, from))) ∙ way.left m from other;
      }
  third_step before after apart way (inr (same, agree)) =
      let P : Course → Type 0 = λ c. IsOnWay old goal c (0x202 + 2 * n) in
      subst P (sym same) (record {
        towards = way.towards;
        disabled = way.disabled;
        done = λ m low. elim (cases_lt m (0x201 + 2 * n)) [
          | inl lower ↦ way.done m lower
          | inr level ↦ let at : 0x201 + 2 * n ≡ m = omega (arith, low, level) in subst (λ k. value_at before.file k ≡ value_at goal k) at agree
        ];
        left = way.left;
      })

  -- a pair that differs from the new one in a register
  pub apart_by : (now : Course) → IsOnWay old goal now (0x200 + 2 * n)
      → (value_at now.file (0x200 + 2 * n) ≢ value_at goal (0x200 + 2 * n)) ⊎ (value_at now.file (0x201 + 2 * n) ≢ value_at goal (0x201 + 2 * n))
      → pair_at old.pairs n ≢ pair_at goal.pairs n
  apart_by now way (inl differs) same =
      let inside = here old way.towards.old_file way.towards.old_kind in
      differs
      (way.left (0x200 + 2 * n) (omega arith) not_last_base ∙ base_value old way.towards.old_file n inside ∙ ap (λ (p : ℕ × ℕ). Some p.0) same ∙ sym (base_value goal is_too n within))
  apart_by now way (inr differs) same =
      let inside = here old way.towards.old_file way.towards.old_kind in
      differs
      (way.left (0x201 + 2 * n) (omega arith) not_last ∙ mask_value old way.towards.old_file n inside ∙ ap (λ (p : ℕ × ℕ). Some p.1) same ∙ sym (mask_value goal is_too n within))

  pub copied_pair : (first second third last : Course) → pair_at old.pairs n ≢ pair_at goal.pairs n → IsOnWay old goal first (0x200 + 2 * n)
      → IsSwitchedOff first second (0x201 + 2 * n) → IsCopied goal second third (0x200 + 2 * n) → IsCopied goal third last (0x201 + 2 * n) → IsOnWay old goal last (0x202 + 2 * n)
  copied_pair first second third last apart way off base mask = third_step third last apart (second_step second third (first_step first second way apart off) base) mask

  pub agreeing_pair : (now : Course) → IsOnWay old goal now (0x200 + 2 * n) → value_at now.file (0x200 + 2 * n) ≡ value_at goal (0x200 + 2 * n)
      → value_at now.file (0x201 + 2 * n) ≡ value_at goal (0x201 + 2 * n) → IsOnWay old goal now (0x202 + 2 * n)
  agreeing_pair now way base mask = record {
    towards = way.towards;
    disabled = way.disabled;
    done = λ m low. elim (cases_lt m (0x200 + 2 * n)) [
      | inl lower ↦ way.done m lower
      | inr past ↦ elim (cases_lt m (0x201 + 2 * n)) [
        | inl first ↦ let at : 0x200 + 2 * n ≡ m = omega (arith, past, first) in subst (λ k. value_at now.file k ≡ value_at goal k) at base
        | inr second ↦ let at : 0x201 + 2 * n ≡ m = omega (arith, low, second) in subst (λ k. value_at now.file k ≡ value_at goal k) at mask
      ]
    ];
    left = λ m from other. way.left m (omega (arith, from)) other;
  }

-- ---- while writes are made

pub clear_within : (old new : RegisterFile) (front back : List Write) (w : Write) → AreWrites old (front ++ w ∷ back) new → w.number ≢ number_of DefaultType
    → (now : RegisterFile) × AreWrites old front now × (is_enabled now ≡ false)
clear_within old new [] back w are other = (old, refl, are.1.others other)
clear_within old new (v ∷ vs) back w are other =
    let later = clear_within are.0 new vs back w are.3 other in
    (later.0, (are.0, are.1, are.2, later.1), later.2)
