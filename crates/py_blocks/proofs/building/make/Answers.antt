use Rattle.std.proofs.Common.{ℕ, ◌<◌, length, ◌∙◌, sym}
use Rattle.std.specs.Prelude.{All}
use Rattle.std.proofs.lemmas.List.Elements.{All-same}
use Rattle.py_blocks.specs.Statements.{parts}
use Rattle.py_blocks.proofs.BuildingLaws.{parts-held, simple-makes, clause-makes, statement-makes}
use Rattle.py_blocks.proofs.building.make.Goals as goal

pub add_clause-requires : goal.add_clause-requires
add_clause-requires c =
    All-same (λ (n : ℕ). n < length c.args.builder.now) _ _ (c.as_slice.ensures.value ∙ c.in_ok-kids.ensures) (parts-held _ _ _ c.requires.made c.requires.block)

pub add_statement-requires-clause-parts : goal.add_statement-requires-clause-parts
add_statement-requires-clause-parts c = All-same (λ (n : ℕ). n < length c.args.builder.now) _ _ c.in_ok-kids.ensures (parts-held _ _ _ c.requires.made c.requires.block)

pub returns-in_ok-made : goal.returns-in_ok-made
returns-in_ok-made c =
    clause-makes _ _ _ _ _ _ _ _ c.requires.behind (sym c.is_header.ensures ∙ c.if-is_header.true) (sym c.is_clause.ensures ∙ c.if-is_clause.true) (c.as_slice.ensures.value ∙ c.in_ok-kids.ensures) c.in_ok-made.ensures

pub returns-in_ok-made-2 : goal.returns-in_ok-made-2
returns-in_ok-made-2 c =
    statement-makes _ _ _ _ _ _ _ _ c.requires.behind (sym c.is_header.ensures ∙ c.if-is_header.true) (sym c.is_clause.ensures ∙ c.if-is_clause.false) c.in_ok-kids.ensures c.in_ok-made-2.ensures

pub returns-in_ok-made-3 : goal.returns-in_ok-made-3
returns-in_ok-made-3 c = simple-makes _ _ _ _ _ _ c.requires.made c.requires.behind (sym c.is_header.ensures ∙ c.if-is_header.false) c.in_ok-made-3.ensures
