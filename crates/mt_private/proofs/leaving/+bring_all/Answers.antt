use Rattle.std.proofs.Common.{◌≡◌, ◌∙◌, ap, sym, subst, arith, rules, ◌++◌, List, [], ◌∷◌, length, length-append, Option, Some}
use Rattle.std.specs.List.{fold}
use Rattle.std.proofs.lemmas.List.Sums.{fold-append}
use Rattle.mt_machine.specs.Memory.{Memory}
use Rattle.mt_machine.specs.System.{Processor, System}
use Rattle.mt_private.specs.Left.{AreParts, processors_in, with_words_of}
use Rattle.mt_private.proofs.Left.{brought_length, front_parts, last_part, processors_more}
use Rattle.mt_private.proofs.leaving.+bring_all.Goals as goal

same_system : (a b : System) → Some a ≡ Some b → a ≡ b
same_system a b e = cc

-- the last one has one processor, and as many words
part_is : (m : Memory) (old front : List (Option System)) (x : Option System) (o : System) → old ≡ front ++ x ∷ [] → x ≡ Some o → AreParts m old → (length o.processors ≡ 1) × (length o.memory.words ≡ length m.words)
part_is m old front x o is same all =
    let p = last_part m front x (subst (AreParts m) is all) in
    let e : p.0 ≡ o = same_system p.0 o (sym p.1 ∙ same) in
    subst (λ (y : System). (length y.processors ≡ 1) × (length y.memory.words ≡ length m.words)) e (p.2, p.3)

pub bring_all-requires : goal.bring_all-requires
bring_all-requires t c =
    let was = c.in-Some.ensures.items in
    let n = ap (λ (l : List (Option System)). length l) was ∙ length-append c.pop.new.self.items (c.in-Some.last ∷ []) in
    let a = c.requires.processors in
    let b = c.requires.places in (
      search rules,
      (
        front_parts c.args.rest.now.ram c.pop.new.self.items (c.in-Some.last ∷ []) (subst (AreParts c.args.rest.now.ram) was c.requires.parts),
        (c.requires.empty, ((omega arith), (omega arith))),
      ),
    )

pub bring-requires-clause-one : goal.bring-requires-clause-one
bring-requires-clause-one t c = (part_is c.args.rest.now.ram c.args.owns.now.items c.pop.new.self.items c.in-Some.last c.in-Some-last.own c.in-Some.ensures.items c.in-Some-last.is c.requires.parts).0

pub bring-requires-clause-words : goal.bring-requires-clause-words
bring-requires-clause-words t c =
    (part_is c.args.rest.now.ram c.args.owns.now.items c.pop.new.self.items c.in-Some.last c.in-Some-last.own c.in-Some.ensures.items c.in-Some-last.is c.requires.parts).1
    ∙ sym (ap (λ (m : Memory). length m.words) c.bring_all.ensures.words ∙ brought_length c.args.rest.now.ram c.pop.new.self.items)

pub returns-clause-processors : goal.returns-clause-processors
returns-clause-processors t c =
    c.bring.ensures.processors
    ∙ ap (λ (ps : List Processor). ps ++ c.in-Some-last.own.processors) c.bring_all.ensures.processors
    ∙ sym (processors_more c.pop.new.self.items c.in-Some-last.own)
    ∙ ap (λ (x : Option System). processors_in (c.pop.new.self.items ++ x ∷ [])) (sym c.in-Some-last.is)
    ∙ ap processors_in (sym c.in-Some.ensures.items)

pub returns-clause-words : goal.returns-clause-words
returns-clause-words t c =
    c.bring.ensures.words
    ∙ ap (λ (m : Memory). with_words_of m (Some c.in-Some-last.own)) c.bring_all.ensures.words
    ∙ sym (fold-append with_words_of c.args.rest.now.ram c.pop.new.self.items (Some c.in-Some-last.own ∷ []))
    ∙ ap (λ (x : Option System). fold with_words_of c.args.rest.now.ram (c.pop.new.self.items ++ x ∷ [])) (sym c.in-Some-last.is)
    ∙ ap (fold with_words_of c.args.rest.now.ram) (sym c.in-Some.ensures.items)
