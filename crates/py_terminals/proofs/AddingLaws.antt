-- What was added so far, part by part.
use Rattle.std.proofs.Common.{◌≡◌, List, [], ◌++◌, refl, sym, ap, ◌∙◌, subst, append-nil, append_assoc, Ok, Err}
use Rattle.fstr_parse.specs.declared.fault.FieldFault.{FieldFault}
use Rattle.py_grammar.specs.Terminals.{Terminal}
use Rattle.py_terminals.specs.Answers.{AreAdded}
use Rattle.py_terminals.specs.Outcomes.{Behind, Outcome, onto}

onto-nil : (out : Outcome) → onto [] out ≡ out
onto-nil (Ok terminals) = refl
onto-nil (Err fault) = refl

onto-onto : (front more : List Terminal) (out : Outcome) → onto front (onto more out) ≡ onto (front ++ more) out
onto-onto front more (Ok terminals) = ap Ok (sym (append_assoc front more terminals))
onto-onto front more (Err fault) = refl

-- the first parts of a whole were added: whatever the rest comes to, the whole comes to that behind them
pub record SoFar (Whole Rest : Outcome → Type 0) (old now : List Terminal) : Type 0 where
  pub front : List Terminal
  pub added : now ≡ old ++ front
  pub leads : (out : Outcome) → Rest out → Whole (onto front out)

-- nothing was added yet
pub so_far_none : (Whole : Outcome → Type 0) (old : List Terminal) → SoFar Whole Whole old old
so_far_none Whole old =
    record { front = []; added = sym (append-nil old); leads = λ out rest. subst Whole (sym (onto-nil out)) rest }

-- the rest, said otherwise
pub so_far_same : (Whole Rest Same : Outcome → Type 0) (old now : List Terminal) → ((out : Outcome) → Same out → Rest out) → SoFar Whole Rest old now → SoFar Whole Same old now
so_far_same Whole Rest Same old now goes so_far =
    record { front = so_far.front; added = so_far.added; leads = λ out same. so_far.leads out (goes out same) }

-- terminals of the whole were added
pub so_far_onto : (Whole Rest : Outcome → Type 0) (old now new more : List Terminal) → SoFar Whole (λ out. (behind : Outcome) × Rest behind × (out ≡ onto more behind)) old now → new ≡ now ++ more → SoFar Whole Rest old new
so_far_onto Whole Rest old now new more so_far is_new =
    record {
      front = so_far.front ++ more;
      added = is_new ∙ ap (λ xs. xs ++ more) so_far.added ∙ append_assoc old so_far.front more;
      leads = λ out rest. subst Whole (onto-onto so_far.front more out) (so_far.leads (onto more out) (out, rest, refl));
    }

-- one part more was added
pub so_far_more : (Whole Part Rest : Outcome → Type 0) (old now new : List Terminal) → SoFar Whole (λ out. (first : Outcome) × Part first × Behind first Rest out) old now → AreAdded Part now new → SoFar Whole Rest old new
so_far_more Whole Part Rest old now new so_far part =
    record {
      front = so_far.front ++ part.terminals;
      added = part.behind ∙ ap (λ xs. xs ++ part.terminals) so_far.added ∙ append_assoc old so_far.front part.terminals;
      leads = λ out rest. subst Whole (onto-onto so_far.front part.terminals out) (so_far.leads (onto part.terminals out) (Ok part.terminals, part.come, (out, rest, refl)));
    }

-- one part more has a fault
pub so_far_fault : (Whole Part Rest : Outcome → Type 0) (old now : List Terminal) (fault : FieldFault) → SoFar Whole (λ out. (first : Outcome) × Part first × Behind first Rest out) old now → Part (Err fault) → Whole (Err fault)
so_far_fault Whole Part Rest old now fault so_far part = so_far.leads (Err fault) (Err fault, part, refl)

-- the last terminals were added
pub so_far_end : (Whole : Outcome → Type 0) (old now new last : List Terminal) → SoFar Whole (λ out. out ≡ Ok last) old now → new ≡ now ++ last → AreAdded Whole old new
so_far_end Whole old now new last so_far is_new =
    record {
      terminals = so_far.front ++ last;
      come = so_far.leads (Ok last) refl;
      behind = is_new ∙ ap (λ xs. xs ++ last) so_far.added ∙ append_assoc old so_far.front last;
    }
