-- Each property that is kept is a used one whose value has its form.
use Rattle.std.proofs.Common.{◌≡◌, true, List, All, IsTrue, get_or, refl, sym, ◌∙◌, subst}
use Rattle.std.proofs.lemmas.List.{get_or_default}
use Rattle.std.specs.Cmp.Lexicographic.{bytes_decides}
use Rattle.std.specs.List.{list_all}
use Rattle.std.specs.BTreeMap as tree
use Rattle.std.specs.BTreeMap.{BTreeMap}
use Rattle.hd_layer.specs.declared.spec.Property.{Property}
use Rattle.hd_layer.specs.WellFormed.{is_property}
use Rattle.hd_schema.proofs.Lookups.{found_in, mapped}
use Rattle.hd_schema.proofs.Sorting.{has_name, found_only}
use Rattle.hd_retained.specs.declared.stored.DepthKey.{DepthKey}
use Rattle.hd_retained.specs.declared.stored.StoredPrim.{StoredPrim}
use Rattle.hd_retained.specs.Layers.{LayerPrim, AreUsed, property_list, properties_of}
use Rattle.hd_retained.specs.inner.Indexed.{depth_key_cmp, depth_key_of, prim_of, layer_in, IsSound}
use Rattle.hd_retained.proofs.Authoring.{listed_same, listed_once}
use Rattle.hd_retained.proofs.Kept.{get-kept}

-- those that are listed by their names are among the properties
listed_used : (ps : List Property) → list_all is_property ps ≡ true → All (λ q. IsTrue (is_property q)) (property_list (properties_of ps))
listed_used ps used k d below =
    let qs = property_list (properties_of ps) in
    let q = get_or qs k d in
    found_in is_property (has_name q.name) ps q used
    (listed_same ps q.name
    ∙ found_only (has_name q.name) qs q ((listed_once (properties_of ps)).once q.name) ((bytes_decides q.name q.name).1 refl) (k, below, get_or_default qs k q d below))

pub kept_used : (m : BTreeMap DepthKey StoredPrim) → IsSound m → AreUsed (layer_in m)
kept_used m sound path p there =
    mapped prim_of (tree.get depth_key_cmp m (depth_key_of path)) p (sym (get-kept m sound path) ∙ there) (λ h in_tree is_prim.
    subst (λ (x : LayerPrim). All (λ q. IsTrue (is_property q)) (property_list x.properties)) is_prim
    (listed_used h.properties (sound.stored (depth_key_of path) h in_tree).formed))
