use Rattle.std.proofs.Common.{◌≡◌, ap, ◌∙◌, ℕ, List, [], ◌∷◌, ◌++◌}
use Rattle.shortest_line.specs.declared.kept.Reached.{Reached}
use Rattle.shortest_line.specs.Tree.{Tree, lines_of}
use Rattle.shortest_line.proofs.Places.{lines_of-none}
use Rattle.shortest_line.proofs.kept.Kept.new.Goals as goal

pub returns : goal.returns
returns c =
    let key = c.args.key.now in
    let P : List (List ℕ) → List Reached → Tree = λ keys reached. record { keys = keys; lines = lines_of reached } in
    let keys : c.push.new.self ≡ key ∷ [] = c.in_ok-push.ensures.added
    ∙ ap (λ ks. ks ++ c.bytes.result.now ∷ []) c.new-keys.ensures ∙ ap (λ b. b ∷ []) c.bytes.ensures in
    ap (λ ks. P ks c.new-2.result.items) keys
    ∙ ap (λ reached. P (key ∷ []) reached) c.new-2.ensures.items
    ∙ ap (λ lines. record { keys = key ∷ []; lines = lines }) lines_of-none
