-- A text is cut in one way.
use Rattle.std.proofs.Common.{◌≡◌, ◌<◌, List, [], ◌∷◌, ◌++◌, length, drop, refl, sym, ap, ◌∙◌, subst, arith, Result, Ok, Err, Option, Some, None, IfOk}
use Rattle.lint_values.specs.declared.memory.Memory.{Memory}
use Rattle.py_lexeme.specs.declared.piece.Piece.{Piece}
use Rattle.py_lexeme.specs.declared.piece.Stop.{Stop}
use Rattle.py_lexeme.specs.declared.piece.Cut.{Cut}
use Rattle.py_lexeme.specs.Characters.{Text}
use Rattle.py_lexeme.specs.Pieces.{IsPieceAt, Cuts}
use Rattle.py_lexeme.specs.Faults.{IsFaulty, StopsAt, IsCut}
use Rattle.py_lexeme.specs.Answers.{Holds}
use Rattle.py_lexeme.proofs.Matches.{same_match, match_some, faulty_no_piece, same_fault}

abbrev NothingAt : Text → Type 0
NothingAt cs = (p : Piece) → IsPieceAt p cs → ⊥

-- one piece more
pub Cuts-push : (cs : Text) (ps : List Piece) (rest : Text) (p : Piece) → Cuts cs ps rest → IsPieceAt p rest → Cuts cs (ps ++ p ∷ []) (drop p.len rest)
Cuts-push cs [] rest p same at = (subst (IsPieceAt p) (sym same) at, ap (drop p.len) same)
Cuts-push cs (q ∷ ps) rest p cut at = (cut.0, Cuts-push (drop q.len cs) ps rest p cut.1 at)

-- two ways to cut, each as far as pieces fit, are one
Cuts-unique : (cs : Text) (ps qs : List Piece) (r s : Text) → Cuts cs ps r → Cuts cs qs s → NothingAt r → NothingAt s → (ps ≡ qs) × (r ≡ s)
Cuts-unique cs [] [] r s a b none_r none_s = (refl, sym a ∙ b)
Cuts-unique cs [] (q ∷ qs) r s a b none_r none_s = absurd (subst NothingAt (sym a) none_r q b.0)
Cuts-unique cs (p ∷ ps) [] r s a b none_r none_s = absurd (subst NothingAt (sym b) none_s p a.0)
Cuts-unique cs (p ∷ ps) (q ∷ qs) r s a b none_r none_s =
    let same : p ≡ q = same_match p q cs a.0.match_at b.0.match_at in
    let rest = Cuts-unique (drop p.len cs) ps qs r s a.1 (subst (λ x. Cuts (drop x.len cs) qs s) (sym same) b.1) none_r none_s in
    ((λ i. same i ∷ rest.0 i), rest.1)

-- no piece is empty
pub piece_some : (p : Piece) (cs : Text) → IsPieceAt p cs → 0 < p.len
piece_some p cs at = match_some p cs at.match_at

nothing_at_end : NothingAt []
nothing_at_end p at = let some : 0 < p.len = piece_some p [] at in absurd (omega (arith, at.match_at.within))

whole_no_stop : (cs : Text) (ps qs : List Piece) (stop : Stop) → Cuts cs ps [] → StopsAt cs qs stop → ⊥
whole_no_stop cs ps qs stop whole stops =
    let same : stops.rest ≡ [] = (Cuts-unique cs qs ps stops.rest [] stops.cuts whole (faulty_no_piece stops.rest stops.fault stops.faulty) nothing_at_end).1 in
    omega (arith, ap length same, stops.some)

same_stop : (cs : Text) (ps qs : List Piece) (s t : Stop) → StopsAt cs ps s → StopsAt cs qs t → (ps ≡ qs) × (s ≡ t)
same_stop cs ps qs s t a b =
    let same = Cuts-unique cs ps qs a.rest b.rest a.cuts b.cuts (faulty_no_piece a.rest a.fault a.faulty) (faulty_no_piece b.rest b.fault b.faulty) in
    let fault : a.fault ≡ b.fault = same_fault b.rest a.fault b.fault (subst (λ r. IsFaulty a.fault r) same.1 a.faulty) b.faulty in
    let cause : s.cause ≡ t.cause = a.cause ∙ ap (λ f. f.cause) fault ∙ sym b.cause in
    let offset : a.fault.place ≡ b.fault.place = ap (λ f. f.place) fault in
    let place : s.place ≡ t.place = omega (arith, ap length same.1, a.place, b.place) in
    (same.0, λ i. record { cause = cause i; place = place i })

pub IsCut-unique : (cs : Text) (ps qs : List Piece) (s t : Option Stop) → IsCut cs ps s → IsCut cs qs t → (ps ≡ qs) × (s ≡ t)
IsCut-unique cs ps qs None None a b = ((Cuts-unique cs ps qs [] [] a b nothing_at_end nothing_at_end).0, refl)
IsCut-unique cs ps qs None (Some t) a b = absurd (whole_no_stop cs ps qs t a b)
IsCut-unique cs ps qs (Some s) None a b = absurd (whole_no_stop cs qs ps s b a)
IsCut-unique cs ps qs (Some s) (Some t) a b = let same = same_stop cs ps qs s t a b in (same.0, ap (λ x. Some x) same.1)

-- an answer that is the cut of a text is every cut of it
pub every_cut : (cs : Text) (r : Result Cut Memory) → IfOk r (λ cut. IsCut cs cut.pieces.items cut.stop) → (ps : List Piece) (stop : Option Stop) → IsCut cs ps stop → IfOk r (λ cut. Holds cut ps stop)
every_cut cs (Ok cut) h ps stop e =
    let same = IsCut-unique cs cut.pieces.items ps cut.stop stop h e in
    record { same_pieces = same.0; same_stop = same.1 }
every_cut cs (Err m) h ps stop e = tt
