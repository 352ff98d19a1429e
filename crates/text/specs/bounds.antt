-- What the buffers need: how many bytes the texts may take. No part of document 01's rules.
pub mod Room
