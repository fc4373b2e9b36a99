mod FirstPlaces
mod WholeRings
