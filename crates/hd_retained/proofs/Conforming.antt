-- The values of each prim are those that a text can author.
use Rattle.std.proofs.Common.{[], ◌∷◌, refl, sym, ◌∙◌, ap, subst}
use Rattle.std.specs.BTreeMap as tree
use Rattle.std.specs.BTreeMap.{BTreeMap}
use Rattle.std.specs.FinMap.{get}
use Rattle.hd_layer.specs.declared.spec.PrimSpec.{PrimSpec}
use Rattle.hd_value.specs.Schema.{Conforms, is_authored}
use Rattle.hd_schema.proofs.Lookups.{mapped}
use Rattle.hd_schema.proofs.Conforming.{authored_conforms}
use Rattle.hd_scene.specs.declared.prims.Entry.{Entry}
use Rattle.hd_scene.specs.Scenes.{SceneConforms}
use Rattle.hd_retained.specs.declared.stored.DepthKey.{DepthKey}
use Rattle.hd_retained.specs.declared.stored.StoredPrim.{StoredPrim}
use Rattle.hd_retained.specs.Layers.{properties_of, container_of, entry_of, scene_of}
use Rattle.hd_retained.specs.inner.Indexed.{depth_key_cmp, depth_key_of, prim_of, layer_in, IsStored, IsSound}
use Rattle.hd_retained.proofs.Authoring.{container_authors}
use Rattle.hd_retained.proofs.Kept.{get-kept, get-scene}
use Rattle.hd_retained.proofs.Listing.{made_spec}

-- a prim with these properties somewhere below the root
abbrev spec_of : StoredPrim → PrimSpec
spec_of h = record { path = [] ∷ []; kind = h.kind; properties = h.properties }

held_conforms : (h : StoredPrim) → IsStored h → Conforms is_authored (container_of (properties_of h.properties))
held_conforms h stored =
    authored_conforms (container_of (properties_of h.properties)) (spec_of h) (made_spec (spec_of h) refl stored.formed stored.distinct) (container_authors h.properties)

pub kept_conforms : (m : BTreeMap DepthKey StoredPrim) → IsSound m → SceneConforms is_authored (scene_of (layer_in m))
kept_conforms m sound path e there =
    mapped entry_of (get (layer_in m) path) e (sym (get-scene (layer_in m) path) ∙ there) (λ p in_layer is_entry.
    mapped prim_of (tree.get depth_key_cmp m (depth_key_of path)) p (sym (get-kept m sound path) ∙ in_layer) (λ h in_tree is_prim.
    subst (λ (f : Entry). Conforms is_authored f.values) (ap entry_of is_prim ∙ is_entry)
    (held_conforms h (sound.stored (depth_key_of path) h in_tree))))
