-- The keys of a map are the keys of the object that it stands for.
use Rattle.std.proofs.Common.{◌≡◌, ◌&&◌, ◌||◌, List, [], ◌∷◌, ℕ, Bool, map, String, string_bytes, refl, ap, ◌∙◌}
use Rattle.std.proofs.Common.{sym, Bor}
use Rattle.std.specs.declared.alloc.Global.{Global}
use Rattle.std.specs.List.{list_any, list_all}
use Rattle.std.specs.Str.{bytes_eq}
use Rattle.serde_json.specs.declared.value.Value.{Value}
use Rattle.serde_json.specs.View.{view, members_view}
use Rattle.json_tree.specs.Fields.{members_have_only}

pub any_known : (key : List ℕ) (keys : List (Bor (List ℕ)))
    → list_any (λ known. bytes_eq key known.now) keys ≡ list_any (bytes_eq key) (map (λ known. known.now) keys)
any_known key [] = refl
any_known key (k ∷ ks) = ap (λ rest. bytes_eq key k.now || rest) (any_known key ks)

pub are_known : (keys : List (Bor (List ℕ))) (entries : List (String Global × Value))
    → list_all (λ key. list_any (λ known. bytes_eq (string_bytes key) known.now) keys) (map (λ e. e.0) entries)
    ≡ members_have_only (map (λ known. known.now) keys) (members_view entries)
are_known keys [] = refl
are_known keys (e ∷ es) =
    ap (λ first. first && list_all (λ key. list_any (λ known. bytes_eq (string_bytes key) known.now) keys)
    (map (λ e. e.0) es)) (any_known (string_bytes e.0) keys)
    ∙ ap (λ rest. list_any (bytes_eq (string_bytes e.0)) (map (λ known. known.now) keys) && rest) (are_known keys es)
