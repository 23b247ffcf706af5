-- Which texts tell of a request that was carried out.
use Rattle.std.proofs.Common.{◌≡◌, ◌∙◌, ap, refl, sym, arith, ℕ, ◌+◌, ◌==◌, Bool, true, false, List, [], ◌∷◌, Option, None, Some}
use Rattle.std.specs.Prelude.{◌↔◌, ◌||◌, codes}
use Rattle.std.specs.Option.{option_map_or}
use Rattle.mt_output.specs.Lines.{line, refused_line}
use Rattle.mt_regs.specs.declared.fault.Fault.{Fault}
use Rattle.mt_regs.specs.FirstFault.{first_fault}
use Rattle.mt_regs.specs.RegisterFile.{RegisterFile}
use Rattle.mt_proc.specs.After.{Served, answer_text, asked, change_text, done_text, with_change, with_goal}
use Rattle.mt_proc.specs.Applied.{applied}
use Rattle.mt_proc.specs.declared.applying.Applied.{Applied}
use Rattle.mt_proc.specs.declared.applying.Applied.TheVariants.{BadRange, Goal, NoneFree, NotUsed}
use Rattle.mt_proc.specs.declared.request.Request.{Request}
use Rattle.mt_proc.specs.declared.request.Request.TheVariants.{Disable, Range}

-- what is told of a change begins with `s` or `c`
abbrev tells_done : List ℕ → Bool
tells_done [] = false
tells_done (byte ∷ bytes) = byte == 115 || byte == 99

done_tells : (request : Request) (n : ℕ) → tells_done (done_text request n) ≡ true
done_tells (Range base size kind) n = refl
done_tells (Disable pair) n = refl

abbrev pub IsToldAsDone : Served → Request → Applied → Type 0
IsToldAsDone now request change = ((n : ℕ) × (change_text request change ≡ done_text request n)) ↔ ((with_change now change).count ≡ now.count + 1)

-- a request that isn't carried out
kept : (now : Served) (request : Request) (text : List ℕ) → tells_done text ≡ false → ((n : ℕ) × (text ≡ done_text request n)) ↔ (now.count ≡ now.count + 1)
kept now request text other =
    (λ told. let e : false ≡ true = sym other ∙ ap tells_done told.1 ∙ done_tells request told.0 in cc e, λ more. absurd (omega (arith, more)))

by_fault : (now : Served) (request : Request) (goal : RegisterFile) (n : ℕ) (fault : Option Fault)
    → ((j : ℕ) × (option_map_or refused_line fault (done_text request n) ≡ done_text request j)) ↔ ((with_goal now goal fault).count ≡ now.count + 1)
by_fault now request goal n (Some fault) = kept now request (refused_line fault) refl
by_fault now request goal n None = (λ told. refl, λ more. (n, refl))

is_told : (now : Served) (request : Request) (change : Applied) → IsToldAsDone now request change
is_told now request (Goal goal n) = by_fault now request goal n (first_fault goal)
is_told now request BadRange = kept now request (line (codes "bad range")) refl
is_told now request NoneFree = kept now request (line (codes "full")) refl
is_told now request NotUsed = kept now request (line (codes "not used")) refl

pub told_exactly : (now : Served) (request : Request) → ((n : ℕ) × (answer_text now request ≡ done_text request n)) ↔ ((asked now request).count ≡ now.count + 1)
told_exactly now request = is_told now request (applied now.file request)

-- whatever else is told, the file and the count stand
stands : (now : Served) (change : Applied) → ((with_change now change).count ≡ now.count + 1 → ⊥) → with_change now change ≡ now
stands now (Goal goal n) less = by (first_fault goal) less
  where
    by : (fault : Option Fault) → ((with_goal now goal fault).count ≡ now.count + 1 → ⊥) → with_goal now goal fault ≡ now
    by (Some fault) less = refl
    by None less = absurd (less refl)
stands now BadRange less = refl
stands now NoneFree less = refl
stands now NotUsed less = refl

pub else_stands : (now : Served) (request : Request) → ((n : ℕ) → answer_text now request ≡ done_text request n → ⊥) → asked now request ≡ now
else_stands now request other = stands now (applied now.file request) (λ more. let told = (told_exactly now request).1 more in other told.0 told.1)
