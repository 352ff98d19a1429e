-- What a buffer needs: how many bytes the end may take. No part of document 01's rules.
pub mod Room
